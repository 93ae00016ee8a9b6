use Rattle.ug_core.specs.DeviceRows.{by_number}
use Rattle.ug_core.proofs.RowOrder.{by_has, has_by, one_order, rising_by}
use Rattle.ug_core.proofs.list_laws.devices_law.Goals as goal

pub returns-clause-same : goal.returns-clause-same
returns-clause-same c = λ ss s. (by_has ss s, has_by ss s)

pub returns-clause-rising : goal.returns-clause-rising
returns-clause-rising c = rising_by

pub returns-clause-only : goal.returns-clause-only
returns-clause-only c = λ ss rising d r h.
    one_order rising (by_number ss) r (rising_by ss d) (λ s a. has_by ss s ((h s).0 a)) (λ s a. (h s).1 (by_has ss s a))
