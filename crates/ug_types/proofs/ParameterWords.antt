-- Words are settings and their values exactly as these are written.
use Rattle.std.proofs.Common.{◌≡◌, ℕ, List, Option, Some, None, refl, sym, ap, ◌∙◌}
use Rattle.std.specs.Option.{option_map}
use Rattle.std.specs.Prelude.{codes, ◌↔◌}
use Rattle.std.proofs.lemmas.Option.{none-some, same_Some}
use Rattle.ug_types.specs.declared.parameter.Inserted.{Inserted}
use Rattle.ug_types.specs.declared.parameter.Inserted.TheVariants as inserted
use Rattle.ug_types.specs.declared.parameter.Parameter.{Parameter}
use Rattle.ug_types.specs.declared.parameter.Parameter.TheVariants as parameter
use Rattle.ug_types.specs.declared.parameter.ParameterName.{ParameterName}
use Rattle.ug_types.specs.declared.parameter.ParameterName.TheVariants as name
use Rattle.ug_types.specs.Parameters.{inserted_of, inserted_word, parameter_name, parameter_of, parameter_set, parameter_with, value_word}
use Rattle.ug_types.specs.Targets.{target_of}
use Rattle.ug_types.proofs.AccessWords.{row, target_written, target_read}

pub inserted_written : (word : List ℕ) (it : Inserted) → inserted_of word ≡ Some it → word ≡ inserted_word it
unfolding inserted_of
inserted_written word it h = row inserted_word word (codes "block") inserted.Block it _ refl (λ h. row inserted_word word (codes "reject") inserted.Reject it _ refl (λ h. row inserted_word word (codes "apply-policy") inserted.Apply it _ refl (λ h. absurd (none-some it h)) h) h) h

pub inserted_read : (it : Inserted) → inserted_of (inserted_word it) ≡ Some it
unfolding inserted_of
inserted_read inserted.Block = refl
inserted_read inserted.Reject = refl
inserted_read inserted.Apply = refl

pub inserted_law : (policy : Inserted) (word : List ℕ) → (inserted_of word ≡ Some policy) ↔ (word ≡ inserted_word policy)
inserted_law policy word = (inserted_written word policy, λ e. ap inserted_of e ∙ inserted_read policy)

parameter_written : (word : List ℕ) (it : ParameterName) → parameter_of word ≡ Some it → word ≡ parameter_name it
unfolding parameter_of
parameter_written word it h = row parameter_name word (codes "ImplicitPolicyTarget") name.ImplicitPolicyTarget it _ refl (λ h. row parameter_name word (codes "InsertedDevicePolicy") name.InsertedDevicePolicy it _ refl (λ h. absurd (none-some it h)) h) h

parameter_read : (it : ParameterName) → parameter_of (parameter_name it) ≡ Some it
unfolding parameter_of
parameter_read name.ImplicitPolicyTarget = refl
parameter_read name.InsertedDevicePolicy = refl

pub parameter_law : (it : ParameterName) (word : List ℕ) → (parameter_of word ≡ Some it) ↔ (word ≡ parameter_name it)
parameter_law it word = (parameter_written word it, λ e. ap parameter_of e ∙ parameter_read it)

mapped : {X : Type 0} (make : X → Parameter) (found : Option X) (set : Parameter) → option_map make found ≡ Some set → (x : X) × (found ≡ Some x) × (set ≡ make x)
mapped make None set h = absurd (none-some set h)
mapped make (Some x) set h = (x, refl, sym (same_Some (make x) set h))

value_written : (it : ParameterName) (set : Parameter) (word : List ℕ) → parameter_with it word ≡ Some set → (parameter_set set ≡ it) × (word ≡ value_word set)
value_written name.ImplicitPolicyTarget set word h =
    let m = mapped parameter.ImplicitPolicyTarget (target_of word) set h in
    (ap parameter_set m.2, target_written word m.0 m.1 ∙ ap value_word (sym m.2))
value_written name.InsertedDevicePolicy set word h =
    let m = mapped parameter.InsertedDevicePolicy (inserted_of word) set h in
    (ap parameter_set m.2, inserted_written word m.0 m.1 ∙ ap value_word (sym m.2))

value_read : (set : Parameter) → parameter_with (parameter_set set) (value_word set) ≡ Some set
value_read (parameter.ImplicitPolicyTarget target) = ap (option_map parameter.ImplicitPolicyTarget) (target_read target)
value_read (parameter.InsertedDevicePolicy policy) = ap (option_map parameter.InsertedDevicePolicy) (inserted_read policy)

pub value_law : (it : ParameterName) (set : Parameter) (word : List ℕ) → (parameter_with it word ≡ Some set) ↔ ((parameter_set set ≡ it) × (word ≡ value_word set))
value_law it set word = (value_written it set word, λ h. ap (λ (n : ParameterName). parameter_with n word) (sym h.0) ∙ ap (parameter_with (parameter_set set)) h.1 ∙ value_read set)
