-- A daemon that nothing tells to allow anything authorises nothing.
use Rattle.std.proofs.Common.{◌≡◌, ℕ, Bool, true, false, not, List, [], ◌∷◌, ◌++◌, Option, Some, refl, sym, ◌∙◌, ap, subst, inl, inr, true≢false}
use Rattle.rand_core.specs.Stream.{Stream}
use Rattle.ug_types.specs.Elements.{Has}
use Rattle.ug_types.specs.declared.record.DeviceRecord.{DeviceRecord}
use Rattle.ug_types.specs.declared.verdict.Cause.{Cause}
use Rattle.ug_types.specs.declared.verdict.Target.TheVariants as target
use Rattle.ug_types.proofs.Elements.{has_cases, has_left, has_right}
use Rattle.ug_kernel.specs.Kernel.{Kernel}
use Rattle.ug_kernel.specs.declared.control.Held.{Held}
use Rattle.ug_kernel.specs.declared.control.Write.TheVariants as write
use Rattle.ug_kernel.specs.declared.device.Effect.{Effect}
use Rattle.ug_cond.specs.declared.context.Context.{Context}
use Rattle.ug_cond.specs.Judgements.{Judgement}
use Rattle.ug_cond.specs.Words.{behind}
use Rattle.ug_conf.specs.declared.settings.Present.TheVariants as present
use Rattle.ug_policy.specs.declared.entry.RuleEntry.{RuleEntry}
use Rattle.ug_core.specs.declared.changes.Change.{Change}
use Rattle.ug_core.specs.Policy.{Judging, context_at}
use Rattle.ug_headline.specs.Headline.{By_keeping, By_none, By_rule, By_setting, Changes, Deed, IsWarranted, Judges, Line, Reason, Seen, TellsLog, Tells_effect, Tells_failed, Tells_none, Tells_other, WasJudgedByRules, WasOrderedByOne, after_deeds, has_listed_all, present_setting}
use Rattle.ug_headline.specs.Devices.{is_root_name}
use Rattle.ug_headline.specs.Rules.{Finds, Finds_none, Finds_this, Finds_unheld, Finds_unmatched}
use Rattle.ug_headline.specs.Silence.{AllowsNothing, NothingAuthorised}

-- the one that is found is one of the rules
found_has : (dev : DeviceRecord) (judgements : List Judgement) (ctx : Context) (beside : List DeviceRecord) (rules : List RuleEntry) (words : Stream) (found : Option RuleEntry) → Finds dev judgements ctx beside rules words found → (e : RuleEntry) → found ≡ Some e → Has rules e
found_has dev judgements ctx beside _ _ _ (Finds_none words) e is = let none : ⊥ = cc in absurd none
found_has dev judgements ctx beside _ _ _ (Finds_this r rules words m b) e is = let same : r ≡ e = cc in inl same
found_has dev judgements ctx beside _ _ _ (Finds_unheld r rules words found m b f) e is = inr (found_has dev judgements ctx beside rules _ found f e is)
found_has dev judgements ctx beside _ _ _ (Finds_unmatched r rules words found m f) e is = inr (found_has dev judgements ctx beside rules words found f e is)

-- without changes the settings and rules are those of the start
unchanged : (deeds : List Deed) (start : Judging) → ((change : Change) → Has deeds (Changes change) → ⊥) → after_deeds deeds start ≡ start
unchanged [] start none = refl
unchanged (Judges number name held verdict why ∷ deeds) start none = unchanged deeds start (λ c h. none c (inr h))
unchanged (Changes c ∷ deeds) start none = absurd (none c (inl refl))

blocked : (start : Judging) → AllowsNothing start → (root : Bool) → present_setting start.classes root ≡ present.Block
blocked start silent true = silent.controllers
blocked start silent false = silent.devices

no_reason : (start : Judging) → AllowsNothing start → (judgements : List Judgement) (ctx : Context) (beside : List DeviceRecord) (words : Stream) (dev : DeviceRecord) (root was on : Bool) (why : Cause) → Reason start judgements ctx beside words dev root was on why → ⊥
no_reason start silent judgements ctx beside words dev root was on _ (By_rule e asked f allows) = silent.rules e (found_has dev judgements ctx beside start.rules words (Some e) f e refl) allows
no_reason start silent judgements ctx beside words dev root was on _ (By_none asked f allows) = let bad : target.Block ≡ target.Allow = sym silent.implicit ∙ allows in cc
no_reason start silent judgements ctx beside words dev root was on _ (By_setting there allows) = let bad : present.Block ≡ present.Allow = sym (blocked start silent root) ∙ allows in cc
no_reason start silent judgements ctx beside words dev root was on _ (By_keeping there keeps is) = let bad : present.Block ≡ present.Keep = sym (blocked start silent root) ∙ keeps in cc

module _ (start : Judging) (run : List Seen) (k : Kernel) (silent : AllowsNothing start) (stranger : (event : Seen) → Has run event → event.granted ≡ false) where
  never : (event : Seen) → Has run event → event.granted ≡ true → ⊥
  never event h granted = true≢false (sym granted ∙ stranger event h)

  no_ruling : (number i : ℕ) (name : List ℕ) (held : Held) (why : Cause) → WasJudgedByRules start run k number i name held why → ⊥
  no_ruling number i name held why w =
      let same : after_deeds w.before start ≡ start = unchanged w.before start (λ c h. let o = w.ordered c h in never o.0 o.1 o.3) in
      let ctx : Context = context_at start.clock w.event.moment in
      let words : Stream = behind w.words start.stream in
      let root : Bool = is_root_name name in
      let was : Bool = not (has_listed_all w.earlier) in
      no_reason start silent w.judgements ctx w.beside words w.dev root was w.on why
      (subst (λ (j : Judging). Reason j w.judgements ctx w.beside words w.dev root was w.on why) same w.reason)

  no_order : (number : ℕ) (name : List ℕ) (held : Held) (why : Cause) → WasOrderedByOne run number name held why → ⊥
  no_order number name held why w = never w.event (subst (λ (l : List Seen). Has l w.event) (sym w.in_run) (has_right w.earlier (w.event ∷ w.later) w.event (inl refl))) w.granted

module _ (start : Judging) (run : List Seen) (k : Kernel) (silent : AllowsNothing start) (stranger : (event : Seen) → Has run event → event.granted ≡ false) where
  no_warrant : (es : List Line) (number i : ℕ) → IsWarranted start run k es number i → ⊥
  no_warrant es number i w =
      let front : List Seen = w.earlier ++ w.event ∷ [] in
      let whole : (x : Seen) → Has (w.earlier ++ w.event ∷ w.later) x → x.granted ≡ false = λ x h. stranger x (subst (λ (l : List Seen). Has l x) (sym w.in_run) h) in
      let early : (x : Seen) → Has front x → x.granted ≡ false = λ x h. elim (has_cases w.earlier (w.event ∷ []) x h) [
        | inl a ↦ whole x (has_left w.earlier (w.event ∷ w.later) x a)
        | inr b ↦ elim b [
          | inl is ↦ whole x (has_right w.earlier (w.event ∷ w.later) x (inl is))
          | inr none ↦ absurd none
        ]
      ] in
      elim w.allowed [
        | inl r ↦ no_ruling start front k silent early number i w.name w.held w.why r
        | inr o ↦ no_order start front k silent early number w.name w.held w.why o
      ]

  none_on : (es : List Line) (log : List Effect) → TellsLog start run k es log → (i : ℕ) → Has log (record { device = i; write = write.On }) → ⊥
  none_on _ _ Tells_none i h = h
  none_on _ _ (Tells_other es more log none t) i h = none_on es log t i h
  none_on _ _ (Tells_failed es log number name what outcome may t) i h = none_on es log t i h
  none_on _ _ (Tells_effect es log number name outcome effect may warranted t) i h = elim (has_cases log (effect ∷ []) (record { device = i; write = write.On }) h) [
    | inl a ↦ none_on es log t i a
    | inr b ↦ elim b [
      | inl is ↦ no_warrant es number effect.device (warranted (ap (λ (x : Effect). x.write) is))
      | inr none ↦ none
    ]
  ]

pub nothing_authorised : NothingAuthorised
nothing_authorised start first run k silent stranger w i h = none_on start run k silent stranger _ w.added w.each i h
