-- The first rule of a list that is made of a device.
use Rattle.std.proofs.Common.{◌≡◌, ℕ, Bool, true, false, ◌&&◌, ◌||◌, cond, List, [], ◌∷◌, Option, Some, None, inl, inr, refl, sym, ap, ◌∙◌, subst}
use Rattle.std.specs.Prelude.{IfSome}
use Rattle.std.specs.List.{find}
use Rattle.std.specs.Option.{option_map}
use Rattle.std.proofs.lemmas.Option.{same_Some}
use Rattle.std.proofs.lemmas.Bool.{eq-eqb}
use Rattle.ug_types.specs.Elements.{AllDistinct, Has}
use Rattle.ug_types.proofs.Elements.{distinct_one, has_right}
use Rattle.ug_types.specs.declared.rule.Rule.{Rule}
use Rattle.ug_types.specs.declared.verdict.Target.{Target}
use Rattle.ug_policy.specs.Edits.{has_id}
use Rattle.ug_policy.specs.Marks.{is_permanent}
use Rattle.ug_policy.specs.Rules.{ids}
use Rattle.ug_types.specs.declared.record.DeviceRecord.{DeviceRecord}
use Rattle.ug_policy.specs.declared.entry.Mark.{Mark}
use Rattle.ug_policy.specs.declared.entry.Mark.TheVariants as mark
use Rattle.ug_policy.specs.declared.entry.RuleEntry.{RuleEntry}
use Rattle.ug_print.specs.Made.{is_made_of}
use Rattle.ug_print.proofs.Made.{made_is}
use Rattle.ug_ruleset.specs.MadeRules.{HasNoneMade, IsFirstMade, IsMade}
use Rattle.ug_print.specs.Generated.{generated_of}
use Rattle.ug_ruleset.specs.RuleEdits.{IsButForTarget}
use Rattle.ug_ruleset.specs.RulePlaces.{has_permanent, is_made, made_rule}

-- a permanent rule is one of the rule file
file_mark : (m : Mark) → is_permanent m ≡ true → m ≡ mark.File
file_mark mark.Folder h = let none : ⊥ = cc in absurd none
file_mark mark.File h = refl
file_mark mark.Temporary h = let none : ⊥ = cc in absurd none

module _ (device : DeviceRecord) (with_port : Bool) where
  made_so : (e : RuleEntry) → is_made device with_port e ≡ true → IsMade device with_port e
  made_so e h = by_flag (is_permanent e.mark) refl h
    where
      by_flag : (b : Bool) → is_permanent e.mark ≡ b → (b && is_made_of device with_port e.rule) ≡ true → IsMade device with_port e
      by_flag false is k = let none : ⊥ = cc in absurd none
      by_flag true is k = (file_mark e.mark is, (made_is device with_port e.rule).0 k)

  not_made : (e : RuleEntry) → is_made device with_port e ≡ false → IsMade device with_port e → ⊥
  not_made e h made =
      let yes : is_made_of device with_port e.rule ≡ true = (made_is device with_port e.rule).1 made.1 in
      let so : (is_permanent e.mark && is_made_of device with_port e.rule) ≡ true = ap (λ (m : Mark). is_permanent m && is_made_of device with_port e.rule) made.0 ∙ yes in
      let none : ⊥ = cc in
      none

  found : (id : ℕ) (es : List RuleEntry) → made_rule device with_port es ≡ Some id → IsFirstMade device with_port es id
  found id [] h = let none : ⊥ = cc in absurd none
  found id (e ∷ es) h = by_first (is_made device with_port e) refl h (found id es)
    where
      behind : is_made device with_port e ≡ false → IsFirstMade device with_port es id → IsFirstMade device with_port (e ∷ es) id
      behind is k = record {
        front = e ∷ k.front;
        e = k.e;
        back = k.back;
        at = ap (λ (v : List RuleEntry). e ∷ v) k.at;
        has = k.has;
        made = k.made;
        first = λ f has made. elim has [ inl same ↦ not_made e is (subst (IsMade device with_port) (sym same) made) | inr has ↦ k.first f has made ];
      }

      by_first : (b : Bool) → is_made device with_port e ≡ b → option_map (λ (f : RuleEntry). f.id) (cond b (Some e) (find (is_made device with_port) es)) ≡ Some id → (made_rule device with_port es ≡ Some id → IsFirstMade device with_port es id) → IsFirstMade device with_port (e ∷ es) id
      by_first true is k rest = record { front = []; e = e; back = es; at = refl; has = same_Some e.id id k; made = made_so e is; first = λ f has made. absurd has }
      by_first false is k rest = behind is (rest k)

  none_found : (es : List RuleEntry) → made_rule device with_port es ≡ None → HasNoneMade device with_port es
  none_found [] h f has made = absurd has
  none_found (e ∷ es) h f has made = by_first (is_made device with_port e) refl h has (λ k there. none_found es k f there made)
    where
      by_first : (b : Bool) → is_made device with_port e ≡ b → option_map (λ (f : RuleEntry). f.id) (cond b (Some e) (find (is_made device with_port) es)) ≡ None → Has (e ∷ es) f → (made_rule device with_port es ≡ None → Has es f → ⊥) → ⊥
      by_first true is k there rest = let none : ⊥ = cc in none
      by_first false is k (inl same) rest = not_made e is (subst (IsMade device with_port) (sym same) made)
      by_first false is k (inr there) rest = rest k there

pub made_rule_some : (device : DeviceRecord) (with_port : Bool) (rules : List RuleEntry) (id : ℕ) → made_rule device with_port rules ≡ Some id → IsFirstMade device with_port rules id
made_rule_some device with_port rules id h = found device with_port id rules h

pub made_rule_none : (device : DeviceRecord) (with_port : Bool) (rules : List RuleEntry) → made_rule device with_port rules ≡ None → HasNoneMade device with_port rules
made_rule_none device with_port rules h = none_found device with_port rules h

-- it is there, and is permanent
pub made_there : (device : DeviceRecord) (with_port : Bool) (rules : List RuleEntry) (id : ℕ) → made_rule device with_port rules ≡ Some id → Has (ids rules) id × (has_permanent id rules ≡ true)
made_there device with_port [] id h = let none : ⊥ = cc in absurd none
made_there device with_port (e ∷ es) id h = by_first (is_made device with_port e) refl h (made_there device with_port es id)
  where
    by_first : (b : Bool) → is_made device with_port e ≡ b → option_map (λ (f : RuleEntry). f.id) (cond b (Some e) (find (is_made device with_port) es)) ≡ Some id → (made_rule device with_port es ≡ Some id → Has (ids es) id × (has_permanent id es ≡ true)) → Has (ids (e ∷ es)) id × (has_permanent id (e ∷ es) ≡ true)
    by_first true is k rest =
        let same : e.id ≡ id = same_Some e.id id k in
        let made = made_so device with_port e is in
        (inl same, ap (λ (b : Bool). (b && is_permanent e.mark) || has_permanent id es) (eq-eqb e.id id same) ∙ ap (λ (m : Mark). (true && is_permanent m) || has_permanent id es) made.0)
    by_first false is k rest = (inr (rest k).0, later (has_id id e && is_permanent e.mark) (rest k).1)
      where
        later : (b : Bool) → has_permanent id es ≡ true → (b || has_permanent id es) ≡ true
        later true h = refl
        later false h = h

-- where no two rules have one id, the rule of its id is that one
pub made_alone : (device : DeviceRecord) (with_port : Bool) (rules : List RuleEntry) (id : ℕ) → AllDistinct (ids rules) → made_rule device with_port rules ≡ Some id → (target : Target) → IsButForTarget id (generated_of device target with_port) rules
unfolding generated_of
made_alone device with_port rules id distinct h target e has same =
    let k = made_rule_some device with_port rules id h in
    let there : Has rules k.e = subst (λ (es : List RuleEntry). Has es k.e) (sym k.at) (has_right k.front (k.e ∷ k.back) k.e (inl refl)) in
    let one : e ≡ k.e = distinct_one (λ (x : RuleEntry). x.id) rules e k.e distinct has there (same ∙ sym k.has) in
    ap (λ (x : RuleEntry). record x.rule { target = target }) one ∙ ap (λ (r : Rule). record r { target = target }) k.made.1

pub alone_if : (device : DeviceRecord) (with_port : Bool) (rules : List RuleEntry) (o : Option ℕ) → o ≡ made_rule device with_port rules → AllDistinct (ids rules) → IfSome o (λ id. (target : Target) → IsButForTarget id (generated_of device target with_port) rules)
alone_if device with_port rules (Some id) is distinct = λ target. made_alone device with_port rules id distinct (sym is) target
alone_if device with_port rules None is distinct = tt
