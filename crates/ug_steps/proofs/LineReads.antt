-- Each line is read as its grammar says.
use Rattle.std.proofs.Common.{◌≡◌, ℕ, inl, inr, ◌↔◌, Bool, true, false, ◌&&◌, ◌||◌, cond, if◌then◌else◌, nat_eq, nat_le, List, [], ◌∷◌, ◌++◌, length, Option, Some, None, Result, Ok, Err, refl, sym, ap, subst, ◌∙◌, append-nil, arith}
use Rattle.std.specs.Prelude.{codes, decimal, option_and_then, option_map}
use Rattle.std.specs.Cmp.Lexicographic.{pointwise, same_text}
use Rattle.std.specs.List.{starts_with}
use Rattle.std.proofs.lemmas.Bool.{and_parts, eqb-true, leb-true, le-leb}
use Rattle.std.proofs.lemmas.Bool.Decides.{nat_tests}
use Rattle.std.proofs.lemmas.Option.{none-some, same_Some}
use Rattle.ug_types.specs.Elements.{Has}
use Rattle.ug_types.specs.Principals.{Named, principal_of, principal_text}
use Rattle.ug_types.specs.declared.rule.Rule as types
use Rattle.ug_types.specs.declared.verdict.Moment.{Moment}
use Rattle.ug_types.proofs.NameWords.{node_graphic, principal_graphic}
use Rattle.ug_types.specs.declared.text_fault.TextFault.{TextFault}
use Rattle.ug_acl.specs.Pairs.{Pair}
use Rattle.ug_acl.specs.Texts.{access_read}
use Rattle.ug_rule.specs.declared.fault.Fault.{Fault}
use Rattle.ug_rule.specs.Rules.{rule_read}
use Rattle.ug_rule.proofs.RuleCuts.{line_says, says_line}
use Rattle.ug_proto.proofs.Numerals.{decimal_plain}
use Rattle.ug_store.specs.declared.mishap.Mishap.{Mishap}
use Rattle.ug_store.specs.declared.mishap.Mishap.TheVariants.{NoEffect, Effect}
use Rattle.ug_store.specs.declared.mishap.Planned.{Planned}
use Rattle.ug_iface.specs.declared.rules.IfaceRule.{IfaceRule}
use Rattle.ug_iface.specs.Rules.{LineFault, iface_rule_read}
use Rattle.ug_iface.proofs.Lines.{line_cut, line_reads as iface_line_reads}
use Rattle.ug_sysfs.specs.declared.script.Failing.{Failing}
use Rattle.ug_sysfs.specs.declared.script.IfaceMove.TheVariants.{Add, Remove}
use Rattle.ug_sysfs.specs.declared.script.Move.{Move}
use Rattle.ug_sysfs.specs.declared.script.Move.TheVariants as move
use Rattle.ug_sysfs.specs.declared.script.NewDevice.{NewDevice}
use Rattle.ug_sysfs.specs.declared.script.Scheduled.{Scheduled}
use Rattle.ug_types.specs.declared.event.Event.{Event}
use Rattle.ug_types.specs.declared.event.Event.TheVariants.{Sweep, Order, Hint}
use Rattle.ug_steps.specs.declared.line_word.LineWord.{LineWord}
use Rattle.ug_steps.specs.declared.line_word.LineWord.TheVariants as word
use Rattle.ug_steps.specs.declared.step.AccessLine.{AccessLine}
use Rattle.ug_steps.specs.declared.step.Plan.{Plan}
use Rattle.ug_steps.specs.declared.step.Plan.TheVariants as plan
use Rattle.ug_steps.specs.declared.step.SetupLine.{SetupLine}
use Rattle.ug_steps.specs.declared.step.SetupLine.TheVariants as setup
use Rattle.ug_steps.specs.declared.step.Step.{Step}
use Rattle.ug_steps.specs.declared.step.Step.TheVariants as step
use Rattle.ug_steps.specs.Grammar.{disk_fail_of, failing_at, failing_of, fails_on_disk, folder_line_of, grant_of, granting, hint_of, in_access, in_iface_rule, in_rule, is_effect, is_fail, mishap_word, mishap_of, move_behind, move_by, move_of, order_at, order_of, scheduled_at, scheduled_of, step_by_word, step_by, step_of_line, planned_stop, stopping_at}
use Rattle.ug_steps.specs.IfaceLines.{iface_name_of, new_iface_of}
use Rattle.ug_steps.specs.LineGrammar.{AsksFor, IsCall, IsDiskFail, IsEventLine, IsMoment, IsMoveLine, IsOrderLine, IsBlankOrComment, IsPlanLine, IsPlug, IsScheduled, IsSetupLine, IsShortName, IsStopLine, effect_words, left_words, mishap_words, start_word, when_word}
use Rattle.ug_steps.specs.LineWords.{line_word_of}
use Rattle.ug_steps.specs.Plugs.{plugged_device, device_with, plugged_files, start_of, with_digits, with_start}
use Rattle.ug_steps.specs.Words.{bytes_of, call_in, call_of, cut_by_space, is_entry, is_one_line, moment_word, name_of, offset_of, seed_of}
use Rattle.ug_steps.proofs.AccessLines.{access_text, graphic_apart, principal_so, so_principal}
use Rattle.ug_steps.proofs.FileWords.{files_so, so_files}
use Rattle.ug_steps.proofs.FolderReads.{folder_so, so_folder}
use Rattle.ug_steps.proofs.HintLines.{hint_so, so_hint}
use Rattle.ug_steps.proofs.HexWords.{bytes_so, hex_apart, seed_so, so_bytes, so_seed}
use Rattle.ug_steps.proofs.IfaceLines.{iface_so, so_iface, so_uniface, uniface_so}
use Rattle.ug_steps.proofs.LineCuts.{Space, bound, cut_alone, cut_found, cut_so, mapped, so_cut, space}
use Rattle.ug_steps.proofs.LineTables.{left_read, left_text, left_written, line_word_read, line_word_written, start_apart, start_read, start_written, word_apart, word_text}
use Rattle.ug_steps.proofs.Moments.{moment_text}
use Rattle.ug_steps.proofs.NamesRead.{name_text}
use Rattle.ug_steps.proofs.Zones.{so_zone, zone_so}

-- ---- numbers

moment_plain : (n : ℕ) → IsMoment n → ¬ Has (decimal n) 32
moment_plain n h = decimal_plain n (omega (arith, h))

call_so : (text : List ℕ) (n : ℕ) → call_of text ≡ Some n → (text ≡ decimal n) × IsCall n
call_so text n h = by (moment_word text) refl h
  where
    tested : (m : ℕ) (v : Bool) → (nat_le 1 m && nat_le m 1048576) ≡ v → cond v (Some m) None ≡ Some n → (m ≡ n) × IsCall n
    tested m true e k =
        let same : m ≡ n = same_Some m n k in
        let p = and_parts (nat_le 1 m) (nat_le m 1048576) e in
        (same, subst IsCall same (leb-true 1 m p.0, leb-true m 1048576 p.1))
    tested m false e k = absurd (none-some n k)

    by : (o : Option ℕ) → moment_word text ≡ o → call_in o ≡ Some n → (text ≡ decimal n) × IsCall n
    by None e k = absurd (none-some n k)
    by (Some m) e k =
        let t = tested m (nat_le 1 m && nat_le m 1048576) refl k in
        (((moment_text text m).0 e).0 ∙ ap decimal t.0, t.1)

call_is : (n : ℕ) → IsCall n → call_of (decimal n) ≡ Some n
call_is n h =
    ap call_in ((moment_text (decimal n) n).1 (refl, omega (arith, h)))
    ∙ rw (le-leb 1 n h.0) (rw (le-leb n 1048576 h.1) refl)

call_plain : (n : ℕ) → IsCall n → ¬ Has (decimal n) 32
call_plain n h = decimal_plain n (omega (arith, h))

-- ---- plug

with_digits_so : (name text : List ℕ) (on : Bool) (device : NewDevice) → with_digits name on text ≡ Some device → (device.name ≡ name) × (device.on ≡ on) × IsShortName name → IsPlug (codes "plug " ++ (name ++ 32 ∷ (start_word on ++ 32 ∷ text))) device
with_digits_so name text on device h (name_is, on_is, named) =
    let c = cut_so (λ (digits rest : List ℕ). option_and_then (λ descriptors. option_map (device_with name on descriptors) (plugged_files rest)) (bytes_of digits)) text device h in
    let d = bound (λ descriptors. option_map (device_with name on descriptors) (plugged_files c.rest)) (bytes_of c.word) device c.gives in
    let f = mapped (device_with name on d.0) (plugged_files c.rest) device d.2 in
    let b = bytes_so c.word d.0 d.1 in
    subst (IsPlug (codes "plug " ++ (name ++ 32 ∷ (start_word on ++ 32 ∷ text)))) f.2 (record {
      digits = c.word;
      files = c.rest;
      is = ap (λ (t : List ℕ). codes "plug " ++ (name ++ 32 ∷ (start_word on ++ 32 ∷ t))) c.is;
      named = named;
      described = b.0;
      some = b.1;
      files_are = files_so c.rest f.0 f.1;
    })

with_parts : (name text : List ℕ) (on : Bool) (device : NewDevice) → with_digits name on text ≡ Some device → (device.name ≡ name) × (device.on ≡ on)
with_parts name text on device h =
    let c = cut_so (λ (digits rest : List ℕ). option_and_then (λ descriptors. option_map (device_with name on descriptors) (plugged_files rest)) (bytes_of digits)) text device h in
    let d = bound (λ descriptors. option_map (device_with name on descriptors) (plugged_files c.rest)) (bytes_of c.word) device c.gives in
    let f = mapped (device_with name on d.0) (plugged_files c.rest) device d.2 in
    (sym (ap (λ (n : NewDevice). n.name) f.2), sym (ap (λ (n : NewDevice). n.on) f.2))

plug_so : (text : List ℕ) (device : NewDevice) → plugged_device text ≡ Some device → IsPlug (codes "plug " ++ text) device
unfolding plugged_device
plug_so text device h =
    let c = cut_so (λ (name rest : List ℕ). option_and_then (λ n. with_start n rest) (name_of name)) text device h in
    let n = bound (λ n. with_start n c.rest) (name_of c.word) device c.gives in
    let named = (name_text c.word n.0).0 n.1 in
    let s = cut_so (λ (start rest : List ℕ). option_and_then (λ on. with_digits n.0 on rest) (start_of start)) c.rest device n.2 in
    let o = bound (λ on. with_digits n.0 on s.rest) (start_of s.word) device s.gives in
    let started = start_written s.word o.0 o.1 in
    let parts = with_parts n.0 s.rest o.0 device o.2 in
    let short : IsShortName n.0 = subst IsShortName (sym named.2) (named.0, named.1) in
    let whole : text ≡ n.0 ++ 32 ∷ (start_word o.0 ++ 32 ∷ s.rest) =
    c.is ∙ ap (λ (w : List ℕ). w ++ 32 ∷ c.rest) (sym named.2)
    ∙ ap (λ (r : List ℕ). n.0 ++ 32 ∷ r) (s.is ∙ ap (λ (w : List ℕ). w ++ 32 ∷ s.rest) started) in
    subst (λ (t : List ℕ). IsPlug (codes "plug " ++ t) device) (sym whole) (with_digits_so n.0 s.rest o.0 device o.2 (parts.0, parts.1, short))

so_plug : (line : List ℕ) (device : NewDevice) → IsPlug line device → (text : List ℕ) × (line ≡ codes "plug " ++ text) × (plugged_device text ≡ Some device)
unfolding plugged_device
so_plug line device p =
    let digits : List ℕ = p.digits ++ 32 ∷ p.files in
    let start : List ℕ = start_word device.on ++ 32 ∷ digits in
    let named : name_of device.name ≡ Some device.name = (name_text device.name device.name).1 (p.named.0, p.named.1, refl) in
    let read : option_and_then (λ descriptors. option_map (device_with device.name device.on descriptors) (plugged_files p.files)) (bytes_of p.digits) ≡ Some device =
    ap (option_and_then (λ descriptors. option_map (device_with device.name device.on descriptors) (plugged_files p.files))) (so_bytes p.digits device.descriptors p.described p.some)
    ∙ ap (option_map (device_with device.name device.on device.descriptors)) (so_files device.product device.serial device.connect p.files p.files_are) in
    let of_digits : with_digits device.name device.on digits ≡ Some device =
    so_cut (λ (ds rest : List ℕ). option_and_then (λ descriptors. option_map (device_with device.name device.on descriptors) (plugged_files rest)) (bytes_of ds)) digits p.digits p.files device refl (hex_apart device.descriptors p.digits p.described) read in
    let of_start : with_start device.name start ≡ Some device =
    so_cut (λ (s rest : List ℕ). option_and_then (λ on. with_digits device.name on rest) (start_of s)) start (start_word device.on) digits device refl (start_apart device.on)
    (ap (option_and_then (λ on. with_digits device.name on digits)) (start_read device.on) ∙ of_digits) in (
      device.name ++ 32 ∷ start,
      p.is,
      so_cut (λ (name rest : List ℕ). option_and_then (λ n. with_start n rest) (name_of name)) (device.name ++ 32 ∷ start) device.name start device refl (graphic_apart device.name (node_graphic device.name p.named.0))
          (ap (option_and_then (λ n. with_start n start)) named ∙ of_start),
    )

-- ---- moves

unplug_so : (text name : List ℕ) → name_of text ≡ Some name → IsMoveLine (codes "unplug " ++ text) (move.Unplug name)
unplug_so text name h =
    let n = (name_text text name).0 h in
    (ap (λ (t : List ℕ). codes "unplug " ++ t) (sym n.2), subst IsShortName (sym n.2) (n.0, n.1))

moves_so : (w : LineWord) (text : List ℕ) (action : Move) → move_behind w text ≡ Some action → IsMoveLine (word_text w ++ 32 ∷ text) action
moves_so word.Plug text action h = let m = mapped move.Plug (plugged_device text) action h in subst (IsMoveLine (codes "plug " ++ text)) m.2 (plug_so text m.0 m.1)
moves_so word.Unplug text action h = let m = mapped move.Unplug (name_of text) action h in subst (IsMoveLine (codes "unplug " ++ text)) m.2 (unplug_so text m.0 m.1)
moves_so word.Iface text action h =
    let m = mapped (λ new. move.Iface (Add new)) (new_iface_of text) action h in
    subst (IsMoveLine (codes "iface " ++ text)) m.2 (iface_so text m.0 m.1)
moves_so word.Uniface text action h =
    let m = mapped (λ name. move.Iface (Remove name)) (iface_name_of text) action h in
    subst (IsMoveLine (codes "uniface " ++ text)) m.2 (uniface_so text m.0 m.1)
moves_so word.Before text action h = absurd (none-some action h)
moves_so word.After text action h = absurd (none-some action h)
moves_so word.Fail text action h = absurd (none-some action h)
moves_so word.Disk text action h = absurd (none-some action h)
moves_so word.Stop text action h = absurd (none-some action h)
moves_so word.Sweep text action h = absurd (none-some action h)
moves_so word.Order text action h = absurd (none-some action h)
moves_so word.Hint text action h = absurd (none-some action h)
moves_so word.Rule text action h = absurd (none-some action h)
moves_so word.Folder text action h = absurd (none-some action h)
moves_so word.Conf text action h = absurd (none-some action h)
moves_so word.Access text action h = absurd (none-some action h)
moves_so word.Seed text action h = absurd (none-some action h)
moves_so word.Zone text action h = absurd (none-some action h)
moves_so word.IfaceRule text action h = absurd (none-some action h)

move_so : (line : List ℕ) (action : Move) → move_of line ≡ Some action → IsMoveLine line action
move_so line action h =
    let c = cut_so (λ (w text : List ℕ). move_by (line_word_of w) text) line action h in
    subst (λ (l : List ℕ). IsMoveLine l action) (sym c.is) (by c.word c.rest (line_word_of c.word) refl c.gives)
  where
    by : (w text : List ℕ) (o : Option LineWord) → line_word_of w ≡ o → move_by o text ≡ Some action → IsMoveLine (w ++ 32 ∷ text) action
    by w text None e k = absurd (none-some action k)
    by w text (Some it) e k = subst (λ (t : List ℕ). IsMoveLine (t ++ 32 ∷ text) action) (sym (line_word_written w it e)) (moves_so it text action k)

move_reads : (w : LineWord) (line text : List ℕ) (action : Move) → line ≡ word_text w ++ 32 ∷ text → move_behind w text ≡ Some action → move_of line ≡ Some action
move_reads w line text action is h =
    so_cut (λ (t rest : List ℕ). move_by (line_word_of t) rest) line (word_text w) text action is (word_apart w)
    (ap (λ (o : Option LineWord). move_by o text) (line_word_read w) ∙ h)

so_move : (line : List ℕ) (action : Move) → IsMoveLine line action → move_of line ≡ Some action
so_move line (move.Plug device) p =
    let d = so_plug line device p in
    move_reads word.Plug line d.0 (move.Plug device) d.1 (ap (option_map move.Plug) d.2)
so_move line (move.Unplug name) (is, named) =
    move_reads word.Unplug line name (move.Unplug name) is (ap (option_map move.Unplug) ((name_text name name).1 (named.0, named.1, refl)))
so_move line (move.Iface (Add new)) p =
    let d = so_iface line new p in
    move_reads word.Iface line d.0 (move.Iface (Add new)) d.1 (ap (option_map (λ new. move.Iface (Add new))) d.2)
so_move line (move.Iface (Remove name)) p =
    let d = so_uniface line name p in
    move_reads word.Uniface line d.0 (move.Iface (Remove name)) d.1 (ap (option_map (λ name. move.Iface (Remove name))) d.2)

-- ---- what is scheduled

scheduled_so : (after : Bool) (text : List ℕ) (m : Scheduled) → scheduled_of after text ≡ Some m → IsScheduled (when_word after ++ text) m
scheduled_so after text m h =
    let c = cut_so (λ (call rest : List ℕ). option_and_then (λ k. scheduled_at after k rest) (call_of call)) text m h in
    let k = bound (λ k. scheduled_at after k c.rest) (call_of c.word) m c.gives in
    let a = mapped (λ action. record { call = k.0; after = after; action = action }) (move_of c.rest) m k.2 in
    let n = call_so c.word k.0 k.1 in
    subst (IsScheduled (when_word after ++ text)) a.2 (record {
      move = c.rest;
      is = ap (λ (t : List ℕ). when_word after ++ t) (c.is ∙ ap (λ (w : List ℕ). w ++ 32 ∷ c.rest) n.0);
      call = n.1;
      moves = move_so c.rest a.0 a.1;
    })

so_scheduled : (line : List ℕ) (m : Scheduled) (s : IsScheduled line m) → scheduled_of m.after (decimal m.call ++ 32 ∷ s.move) ≡ Some m
so_scheduled line m s =
    so_cut (λ (call rest : List ℕ). option_and_then (λ k. scheduled_at m.after k rest) (call_of call)) (decimal m.call ++ 32 ∷ s.move) (decimal m.call) s.move m refl (call_plain m.call s.call)
    (ap (option_and_then (λ k. scheduled_at m.after k s.move)) (call_is m.call s.call) ∙ ap (option_map (λ action. record { call = m.call; after = m.after; action = action })) (so_move s.move m.action s.moves))

-- ---- calls that fail

effect_is : (word : List ℕ) → is_effect word ≡ true → word ≡ codes "effect"
unfolding is_effect
effect_is word h = same_text word (codes "effect") (sym h)

failing_at_so : (effect : Bool) (text : List ℕ) (f : Failing) → failing_at effect (call_of text) ≡ Some f → (text ≡ decimal f.call) × IsCall f.call × (f.effect ≡ effect)
failing_at_so effect text f h =
    let m = mapped (λ k. record { call = k; effect = effect }) (call_of text) f h in
    let n = call_so text m.0 m.1 in
    let same : m.0 ≡ f.call = ap (λ (g : Failing). g.call) m.2 in
    (n.0 ∙ ap decimal same, subst IsCall same n.1, sym (ap (λ (g : Failing). g.effect) m.2))

-- behind a space stands `effect`
abbrev failing_reads : List ℕ → List ℕ → Option Failing
failing_reads call rest = if is_effect rest then failing_at true (call_of call) else None

failing_so : (text : List ℕ) (f : Failing) → failing_of text ≡ Some f → (text ≡ decimal f.call ++ effect_words f.effect) × IsCall f.call
failing_so text f h = elim (space text) [ inl s ↦ by_space s | inr none ↦ alone none ]
  where
    by_test : (word rest : List ℕ) (v : Bool) → is_effect rest ≡ v → cond v (failing_at true (call_of word)) None ≡ Some f → (word ++ 32 ∷ rest ≡ decimal f.call ++ effect_words f.effect) × IsCall f.call
    by_test word rest true e k =
        let a = failing_at_so true word f k in
        (ap (λ (r : List ℕ). word ++ 32 ∷ r) (effect_is rest e) ∙ ap (λ (w : List ℕ). w ++ codes " effect") a.0 ∙ ap (λ (v : Bool). decimal f.call ++ effect_words v) (sym a.2), a.1)
    by_test word rest false e k = absurd (none-some f k)

    by_space : Space text → (text ≡ decimal f.call ++ effect_words f.effect) × IsCall f.call
    by_space s =
        let found : cut_by_space failing_reads (failing_at false (call_of text)) text ≡ failing_reads s.word s.rest = ap (cut_by_space failing_reads (failing_at false (call_of text))) s.is ∙ cut_found failing_reads (failing_at false (call_of text)) s.word s.rest s.no_space in
        let t = by_test s.word s.rest (is_effect s.rest) refl (sym found ∙ h) in
        (s.is ∙ t.0, t.1)

    alone : ¬ Has text 32 → (text ≡ decimal f.call ++ effect_words f.effect) × IsCall f.call
    alone none =
        let a = failing_at_so false text f (sym (cut_alone failing_reads (failing_at false (call_of text)) text none) ∙ h) in
        (a.0 ∙ sym (append-nil (decimal f.call)) ∙ ap (λ (v : Bool). decimal f.call ++ effect_words v) (sym a.2), a.1)

effect_read : is_effect (codes "effect") ≡ true
unfolding is_effect
effect_read = refl

so_failing : (f : Failing) → IsCall f.call → failing_of (decimal f.call ++ effect_words f.effect) ≡ Some f
so_failing f h = by f.call f.effect h
  where
    by : (call : ℕ) (effect : Bool) → IsCall call → failing_of (decimal call ++ effect_words effect) ≡ Some (record { call = call; effect = effect })
    by call true h =
        cut_found failing_reads (failing_at false (call_of (decimal call ++ codes " effect"))) (decimal call) (codes "effect") (call_plain call h)
        ∙ ap (λ (v : Bool). if v then failing_at true (call_of (decimal call)) else None) effect_read
        ∙ ap (failing_at true) (call_is call h)
    by call false h =
        ap failing_of (append-nil (decimal call))
        ∙ cut_alone failing_reads (failing_at false (call_of (decimal call))) (decimal call) (call_plain call h)
        ∙ ap (failing_at false) (call_is call h)

-- ---- calls of the disk

fail_is : (word : List ℕ) → is_fail word ≡ true → word ≡ codes "fail"
unfolding is_fail
fail_is word h = same_text word (codes "fail") (sym h)

fail_read : is_fail (codes "fail") ≡ true
unfolding is_fail
fail_read = refl

mishap_words_of : (effect : Bool) → effect_words effect ≡ mishap_words (mishap_of effect)
mishap_words_of true = refl
mishap_words_of false = refl

disk_fail_so : (text : List ℕ) (p : Planned) → disk_fail_of text ≡ Some p → IsDiskFail (codes "disk " ++ text) p
disk_fail_so text p h =
    let c = cut_so (λ (w rest : List ℕ). if is_fail w then option_map fails_on_disk (failing_of rest) else None) text p h in
    subst (λ (t : List ℕ). IsDiskFail (codes "disk " ++ t) p) (sym c.is) (by c.word c.rest (is_fail c.word) refl c.gives)
  where
    by : (w rest : List ℕ) (v : Bool) → is_fail w ≡ v → cond v (option_map fails_on_disk (failing_of rest)) None ≡ Some p → IsDiskFail (codes "disk " ++ (w ++ 32 ∷ rest)) p
    by w rest true e k =
        let m = mapped fails_on_disk (failing_of rest) p k in
        let f = failing_so rest m.0 m.1 in
        let words : rest ≡ decimal (fails_on_disk m.0).call ++ mishap_words (fails_on_disk m.0).mishap = f.0 ∙ ap (λ (t : List ℕ). decimal m.0.call ++ t) (mishap_words_of m.0.effect) in
        subst (IsDiskFail (codes "disk " ++ (w ++ 32 ∷ rest))) m.2
        (ap (λ (t : List ℕ). codes "disk " ++ (t ++ 32 ∷ rest)) (fail_is w e) ∙ ap (λ (t : List ℕ). codes "disk fail " ++ t) words, f.1, refl)
    by w rest false e k = absurd (none-some p k)

abbrev disk_reads : List ℕ → List ℕ → Option Planned
disk_reads w rest = if is_fail w then option_map fails_on_disk (failing_of rest) else None

so_disk_fail : (line : List ℕ) (p : Planned) → IsDiskFail line p → (text : List ℕ) × (line ≡ codes "disk " ++ text) × (disk_fail_of text ≡ Some p)
so_disk_fail line p h = by p.call p.mishap p.stops h
  where
    as_failing : (f : Failing) → IsCall f.call → disk_fail_of (codes "fail " ++ (decimal f.call ++ effect_words f.effect)) ≡ Some (fails_on_disk f)
    as_failing f call =
        cut_found disk_reads None (codes "fail") (decimal f.call ++ effect_words f.effect) (word_apart word.Fail)
        ∙ ap (λ (v : Bool). if v then option_map fails_on_disk (failing_of (decimal f.call ++ effect_words f.effect)) else None) fail_read
        ∙ ap (option_map fails_on_disk) (so_failing f call)

    by : (call : ℕ) (m : Mishap) (stops : Bool) → (line ≡ codes "disk fail " ++ (decimal call ++ mishap_words m)) × IsCall call × (stops ≡ false) → (text : List ℕ) × (line ≡ codes "disk " ++ text) × (disk_fail_of text ≡ Some (record { call = call; mishap = m; stops = stops }))
    by call NoEffect stops (is, number, none) = (codes "fail " ++ (decimal call ++ []), is, as_failing (record { call = call; effect = false }) number ∙ ap (λ (s : Bool). Some (record { call = call; mishap = NoEffect; stops = s })) (sym none))
    by call Effect stops (is, number, none) = (codes "fail " ++ (decimal call ++ codes " effect"), is, as_failing (record { call = call; effect = true }) number ∙ ap (λ (s : Bool). Some (record { call = call; mishap = Effect; stops = s })) (sym none))

left_words_of : (m : Mishap) → 32 ∷ left_text m ≡ left_words m
left_words_of NoEffect = refl
left_words_of Effect = refl

stop_so : (text : List ℕ) (p : Planned) → planned_stop text ≡ Some p → IsStopLine (codes "stop " ++ text) p
stop_so text p h =
    let c = cut_so (λ (call rest : List ℕ). option_and_then (λ k. stopping_at k (mishap_word rest)) (call_of call)) text p h in
    let k = bound (λ k. stopping_at k (mishap_word c.rest)) (call_of c.word) p c.gives in
    let m = mapped (λ leaves. record { call = k.0; mishap = leaves; stops = true }) (mishap_word c.rest) p k.2 in
    let n = call_so c.word k.0 k.1 in
    let words : text ≡ decimal k.0 ++ left_words m.0 = c.is ∙ ap (λ (w : List ℕ). w ++ 32 ∷ c.rest) n.0 ∙ ap (λ (r : List ℕ). decimal k.0 ++ 32 ∷ r) (left_written c.rest m.0 m.1) ∙ ap (λ (r : List ℕ). decimal k.0 ++ r) (left_words_of m.0) in
    subst (IsStopLine (codes "stop " ++ text)) m.2 (ap (λ (t : List ℕ). codes "stop " ++ t) words, n.1, refl)

so_stop : (line : List ℕ) (p : Planned) → IsStopLine line p → (text : List ℕ) × (line ≡ codes "stop " ++ text) × (planned_stop text ≡ Some p)
so_stop line p (is, number, stops) =
    let text : List ℕ = decimal p.call ++ 32 ∷ left_text p.mishap in
    let read : option_and_then (λ k. stopping_at k (mishap_word (left_text p.mishap))) (call_of (decimal p.call)) ≡ Some p =
    ap (option_and_then (λ k. stopping_at k (mishap_word (left_text p.mishap)))) (call_is p.call number)
    ∙ ap (stopping_at p.call) (left_read p.mishap)
    ∙ ap (λ (s : Bool). Some (record { call = p.call; mishap = p.mishap; stops = s })) (sym stops) in (
      text,
      is ∙ ap (λ (r : List ℕ). codes "stop " ++ (decimal p.call ++ r)) (sym (left_words_of p.mishap)),
      so_cut (λ (call rest : List ℕ). option_and_then (λ k. stopping_at k (mishap_word rest)) (call_of call)) text (decimal p.call) (left_text p.mishap) p refl (call_plain p.call number) read,
    )

-- ---- events

order_so : (text : List ℕ) (event : Event) → order_of text ≡ Some event → IsEventLine (codes "order " ++ text) event
order_so text event h =
    let c = cut_so (λ (moment rest : List ℕ). option_and_then (λ n. order_at n rest) (moment_word moment)) text event h in
    let n = bound (λ n. order_at n c.rest) (moment_word c.word) event c.gives in
    let d = cut_so (λ (who request : List ℕ). option_map (λ p. Order (record { 0 = n.0 }) p request) (principal_of who)) c.rest event n.2 in
    let m = mapped (λ p. Order (record { 0 = n.0 }) p d.rest) (principal_of d.word) event d.gives in
    let moment = (moment_text c.word n.0).0 n.1 in
    let who = principal_so d.word m.0 m.1 in
    let rest : c.rest ≡ principal_text m.0 ++ 32 ∷ d.rest = d.is ∙ ap (λ (w : List ℕ). w ++ 32 ∷ d.rest) who.0 in
    let words : text ≡ decimal n.0 ++ 32 ∷ (principal_text m.0 ++ 32 ∷ d.rest) = c.is ∙ ap (λ (w : List ℕ). w ++ 32 ∷ c.rest) moment.0 ∙ ap (λ (r : List ℕ). decimal n.0 ++ 32 ∷ r) rest in
    subst (IsEventLine (codes "order " ++ text)) m.2 (record {
      is = ap (λ (t : List ℕ). codes "order " ++ t) words;
      moment_is = moment.1;
      named = who.1;
    })

so_order : (line : List ℕ) (moment : Moment) (who : Named) (request : List ℕ) → IsOrderLine line moment who request → (text : List ℕ) × (line ≡ codes "order " ++ text) × (order_of text ≡ Some (Order moment who request))
so_order line moment who request o =
    let rest : List ℕ = principal_text who ++ 32 ∷ request in
    let text : List ℕ = decimal moment.0 ++ 32 ∷ rest in
    let named : order_at moment.0 rest ≡ Some (Order moment who request) =
    so_cut (λ (w r : List ℕ). option_map (λ p. Order (record { 0 = moment.0 }) p r) (principal_of w)) rest (principal_text who) request (Order moment who request) refl (graphic_apart (principal_text who) (principal_graphic who o.named))
    (ap (option_map (λ p. Order (record { 0 = moment.0 }) p request)) (so_principal who o.named)) in (
      text,
      o.is,
      so_cut (λ (m r : List ℕ). option_and_then (λ n. order_at n r) (moment_word m)) text (decimal moment.0) rest (Order moment who request) refl (moment_plain moment.0 o.moment_is)
          (ap (option_and_then (λ n. order_at n rest)) ((moment_text (decimal moment.0) moment.0).1 (refl, o.moment_is)) ∙ named),
    )

-- ---- lines of setup

rule_so : (text : List ℕ) (line : SetupLine) → in_rule (rule_read text) ≡ Some line → IsSetupLine (codes "rule " ++ text) line
rule_so text line h = by (rule_read text) refl h
  where
    by : (r : Result types.Rule Fault) → rule_read text ≡ r → in_rule r ≡ Some line → IsSetupLine (codes "rule " ++ text) line
    by (Ok rule) e k = subst (IsSetupLine (codes "rule " ++ text)) (same_Some (setup.Rule rule) line k) (text, refl, line_says text rule e)
    by (Err fault) e k = absurd (none-some line k)

granted_is : (who : Option Named) (rest : List ℕ) (line : SetupLine) → granting who rest ≡ Some line → (a : AccessLine) × (line ≡ setup.Access a)
granted_is None rest line h = absurd (none-some line h)
granted_is (Some who) rest line h = by (is_one_line rest && is_entry rest) (access_read rest) h
  where
    by : (v : Bool) (r : Result (List Pair) TextFault) → cond v (in_access who r) None ≡ Some line → (a : AccessLine) × (line ≡ setup.Access a)
    by true (Ok grants) k = (record { who = who; grants = grants }, sym (same_Some (setup.Access (record { who = who; grants = grants })) line k))
    by true (Err fault) k = absurd (none-some line k)
    by false r k = absurd (none-some line k)

access_so : (text : List ℕ) (line : SetupLine) → grant_of text ≡ Some line → IsSetupLine (codes "access " ++ text) line
access_so text line h =
    let c = cut_so (λ (who rest : List ℕ). granting (principal_of who) rest) text line h in
    let a = granted_is (principal_of c.word) c.rest line c.gives in
    subst (IsSetupLine (codes "access " ++ text)) (sym a.1) (text, refl, (access_text text a.0).0 (h ∙ ap Some a.1))

-- ---- all lines

iface_rule_so : (text : List ℕ) (asked : SetupLine) → in_iface_rule (iface_rule_read text) ≡ Some asked → IsSetupLine (codes "iface-rule " ++ text) asked
iface_rule_so text asked h = by (iface_rule_read text) refl h
  where
    by : (r : Result IfaceRule LineFault) → iface_rule_read text ≡ r → in_iface_rule r ≡ Some asked → IsSetupLine (codes "iface-rule " ++ text) asked
    by (Ok rule) is k = subst (IsSetupLine (codes "iface-rule " ++ text)) (same_Some (setup.IfaceRule rule) asked k) (text, refl, line_cut text rule is)
    by (Err fault) is k = absurd (none-some asked k)

behind_so : (w : LineWord) (text : List ℕ) (asked : Step) → step_by_word w text ≡ Some asked → AsksFor (word_text w ++ 32 ∷ text) asked
unfolding step_by_word
behind_so word.Plug text asked h = let m = mapped (λ device. step.Move (move.Plug device)) (plugged_device text) asked h in subst (AsksFor (codes "plug " ++ text)) m.2 (plug_so text m.0 m.1)
behind_so word.Unplug text asked h = let m = mapped (λ name. step.Move (move.Unplug name)) (name_of text) asked h in subst (AsksFor (codes "unplug " ++ text)) m.2 (unplug_so text m.0 m.1)
behind_so word.Iface text asked h = let m = mapped (λ new. step.Move (move.Iface (Add new))) (new_iface_of text) asked h in subst (AsksFor (codes "iface " ++ text)) m.2 (iface_so text m.0 m.1)
behind_so word.Uniface text asked h = let m = mapped (λ name. step.Move (move.Iface (Remove name))) (iface_name_of text) asked h in subst (AsksFor (codes "uniface " ++ text)) m.2 (uniface_so text m.0 m.1)
behind_so word.Before text asked h = let m = mapped (λ m. step.Schedule (plan.Move m)) (scheduled_of false text) asked h in subst (AsksFor (codes "before " ++ text)) m.2 (scheduled_so false text m.0 m.1)
behind_so word.After text asked h = let m = mapped (λ m. step.Schedule (plan.Move m)) (scheduled_of true text) asked h in subst (AsksFor (codes "after " ++ text)) m.2 (scheduled_so true text m.0 m.1)
behind_so word.Fail text asked h =
    let m = mapped (λ f. step.Schedule (plan.Fail f)) (failing_of text) asked h in
    let f = failing_so text m.0 m.1 in
    subst (AsksFor (codes "fail " ++ text)) m.2 (ap (λ (t : List ℕ). codes "fail " ++ t) f.0, f.1)
behind_so word.Disk text asked h = let m = mapped (λ p. step.Schedule (plan.OnDisk p)) (disk_fail_of text) asked h in subst (AsksFor (codes "disk " ++ text)) m.2 (inl (disk_fail_so text m.0 m.1))
behind_so word.Stop text asked h = let m = mapped (λ p. step.Schedule (plan.OnDisk p)) (planned_stop text) asked h in subst (AsksFor (codes "stop " ++ text)) m.2 (inr (stop_so text m.0 m.1))
behind_so word.Sweep text asked h =
    let m = mapped (λ moment. step.Event (Sweep (record { 0 = moment }))) (moment_word text) asked h in
    let n = (moment_text text m.0).0 m.1 in
    subst (AsksFor (codes "sweep " ++ text)) m.2 (ap (λ (t : List ℕ). codes "sweep " ++ t) n.0, n.1)
behind_so word.Order text asked h = let m = mapped step.Event (order_of text) asked h in subst (AsksFor (codes "order " ++ text)) m.2 (order_so text m.0 m.1)
behind_so word.Hint text asked h = let m = mapped step.Event (hint_of text) asked h in subst (AsksFor (codes "hint " ++ text)) m.2 (hint_so text m.0 m.1)
behind_so word.Rule text asked h = let m = mapped step.Setup (in_rule (rule_read text)) asked h in subst (AsksFor (codes "rule " ++ text)) m.2 (rule_so text m.0 m.1)
behind_so word.Folder text asked h =
    let m = mapped step.Setup (folder_line_of text) asked h in
    let f = folder_so text m.0 m.1 in
    subst (AsksFor (codes "folder " ++ text)) (ap step.Setup (sym f.1) ∙ m.2) (text, refl, f.2)
behind_so word.Conf text asked h = subst (AsksFor (codes "conf " ++ text)) (same_Some (step.Setup (setup.Conf text)) asked h) refl
behind_so word.Access text asked h = let m = mapped step.Setup (grant_of text) asked h in subst (AsksFor (codes "access " ++ text)) m.2 (access_so text m.0 m.1)
behind_so word.Seed text asked h =
    let m = mapped (λ seed. step.Setup (setup.Seed seed)) (seed_of text) asked h in
    let s = seed_so text m.0 m.1 in
    subst (AsksFor (codes "seed " ++ text)) m.2 (text, refl, s.0, s.1)
behind_so word.Zone text asked h = let m = mapped (λ offset. step.Setup (setup.Zone offset)) (offset_of text) asked h in subst (AsksFor (codes "zone " ++ text)) m.2 (zone_so text m.0 m.1)
behind_so word.IfaceRule text asked h = let m = mapped step.Setup (in_iface_rule (iface_rule_read text)) asked h in subst (AsksFor (codes "iface-rule " ++ text)) m.2 (iface_rule_so text m.0 m.1)

has_some : (b : ℕ) (text : List ℕ) → nat_eq (length (b ∷ text)) 0 ≡ false
has_some b text = grind (arith, nat_tests)

passed_so : (line : List ℕ) → (nat_eq (length line) 0 || starts_with nat_eq line (codes "#")) ≡ true → IsBlankOrComment line
passed_so [] h = inl refl
passed_so (b ∷ text) h =
    let some : nat_eq (length (b ∷ text)) 0 ≡ false = has_some b text in
    let begins : (nat_eq 35 b && true) ≡ true = sym (ap (λ (v : Bool). v || (nat_eq 35 b && true)) some) ∙ h in
    let same : 35 ≡ b = eqb-true 35 b (and_parts (nat_eq 35 b) true begins).0 in
    inr (text, ap (λ (c : ℕ). c ∷ text) (sym same))

abbrev reads_word : List ℕ → List ℕ → Option Step
reads_word w text = step_by (line_word_of w) text

pub line_so : (line : List ℕ) (asked : Step) → step_of_line line ≡ Some asked → AsksFor line asked
unfolding step_of_line
line_so line asked h = by (nat_eq (length line) 0 || starts_with nat_eq line (codes "#")) (pointwise nat_eq line (codes "restart")) refl refl h
  where
    by_word : (w text : List ℕ) (o : Option LineWord) → line_word_of w ≡ o → step_by o text ≡ Some asked → AsksFor (w ++ 32 ∷ text) asked
    by_word w text None e k = absurd (none-some asked k)
    by_word w text (Some it) e k = subst (λ (t : List ℕ). AsksFor (t ++ 32 ∷ text) asked) (sym (line_word_written w it e)) (behind_so it text asked k)

    by : (u v : Bool) → (nat_eq (length line) 0 || starts_with nat_eq line (codes "#")) ≡ u → pointwise nat_eq line (codes "restart") ≡ v → cond u (Some step.Skip) (cond v (Some step.Restart) (cut_by_space reads_word None line)) ≡ Some asked → AsksFor line asked
    by true v e f k = subst (AsksFor line) (same_Some step.Skip asked k) (passed_so line e)
    by false true e f k = subst (AsksFor line) (same_Some step.Restart asked k) (same_text line (codes "restart") (sym f))
    by false false e f k =
        let c = cut_so reads_word line asked k in
        subst (λ (l : List ℕ). AsksFor l asked) (sym c.is) (by_word c.word c.rest (line_word_of c.word) refl c.gives)

behind_read : (w : LineWord) (text : List ℕ) → cut_by_space reads_word None (word_text w ++ 32 ∷ text) ≡ step_by_word w text
behind_read w text = cut_found reads_word None (word_text w) text (word_apart w) ∙ ap (λ (o : Option LineWord). step_by o text) (line_word_read w)

abbrev otherwise : Bool → Bool → Bool → Option Step → Option Step
otherwise empty comment restart other = cond (empty || comment) (Some step.Skip) (cond restart (Some step.Restart) other)

-- a line that begins no comment and isn't `restart`
reads_further : (b : ℕ) (text : List ℕ) → starts_with nat_eq (b ∷ text) (codes "#") ≡ false → pointwise nat_eq (b ∷ text) (codes "restart") ≡ false → step_of_line (b ∷ text) ≡ cut_by_space reads_word None (b ∷ text)
unfolding step_of_line
reads_further b text e f =
    let other : Option Step = cut_by_space reads_word None (b ∷ text) in
    ap (λ (v : Bool). otherwise v (starts_with nat_eq (b ∷ text) (codes "#")) (pointwise nat_eq (b ∷ text) (codes "restart")) other) (has_some b text)
    ∙ ap (λ (v : Bool). otherwise false v (pointwise nat_eq (b ∷ text) (codes "restart")) other) e
    ∙ ap (λ (v : Bool). otherwise false false v other) f

-- no first word begins a comment or makes the line `restart`
reads_on : (w : LineWord) (text : List ℕ) → step_of_line (word_text w ++ 32 ∷ text) ≡ cut_by_space reads_word None (word_text w ++ 32 ∷ text)
reads_on word.Plug text = reads_further 112 (codes "lug " ++ text) refl refl
reads_on word.Unplug text = reads_further 117 (codes "nplug " ++ text) refl refl
reads_on word.Iface text = reads_further 105 (codes "face " ++ text) refl refl
reads_on word.Uniface text = reads_further 117 (codes "niface " ++ text) refl refl
reads_on word.Before text = reads_further 98 (codes "efore " ++ text) refl refl
reads_on word.After text = reads_further 97 (codes "fter " ++ text) refl refl
reads_on word.Fail text = reads_further 102 (codes "ail " ++ text) refl refl
reads_on word.Disk text = reads_further 100 (codes "isk " ++ text) refl refl
reads_on word.Stop text = reads_further 115 (codes "top " ++ text) refl refl
reads_on word.Sweep text = reads_further 115 (codes "weep " ++ text) refl refl
reads_on word.Order text = reads_further 111 (codes "rder " ++ text) refl refl
reads_on word.Hint text = reads_further 104 (codes "int " ++ text) refl refl
reads_on word.Rule text = reads_further 114 (codes "ule " ++ text) refl refl
reads_on word.Folder text = reads_further 102 (codes "older " ++ text) refl refl
reads_on word.Conf text = reads_further 99 (codes "onf " ++ text) refl refl
reads_on word.Access text = reads_further 97 (codes "ccess " ++ text) refl refl
reads_on word.Seed text = reads_further 115 (codes "eed " ++ text) refl refl
reads_on word.Zone text = reads_further 122 (codes "one " ++ text) refl refl
reads_on word.IfaceRule text = reads_further 105 (codes "face-rule " ++ text) refl refl

line_reads : (w : LineWord) (line text : List ℕ) (o : Option Step) → line ≡ word_text w ++ 32 ∷ text → step_by_word w text ≡ o → step_of_line line ≡ o
line_reads w line text o is h = ap step_of_line is ∙ reads_on w text ∙ behind_read w text ∙ h

before_reads : (line text : List ℕ) (m : Scheduled) → line ≡ codes "before " ++ text → scheduled_of false text ≡ Some m → step_of_line line ≡ Some (step.Schedule (plan.Move m))
unfolding step_by_word
before_reads line text m is h = line_reads word.Before line text _ is (ap (option_map (λ m. step.Schedule (plan.Move m))) h)

after_reads : (line text : List ℕ) (m : Scheduled) → line ≡ codes "after " ++ text → scheduled_of true text ≡ Some m → step_of_line line ≡ Some (step.Schedule (plan.Move m))
unfolding step_by_word
after_reads line text m is h = line_reads word.After line text _ is (ap (option_map (λ m. step.Schedule (plan.Move m))) h)

so_schedule : (line : List ℕ) (p : Plan) → IsPlanLine line p → step_of_line line ≡ Some (step.Schedule p)
unfolding step_by_word
so_schedule line (plan.Move m) s = by m.after (decimal m.call ++ 32 ∷ s.move) s.is (so_scheduled line m s)
  where
    by : (after : Bool) (text : List ℕ) → line ≡ when_word after ++ text → scheduled_of after text ≡ Some m → step_of_line line ≡ Some (step.Schedule (plan.Move m))
    by false text is h = before_reads line text m is h
    by true text is h = after_reads line text m is h
so_schedule line (plan.Fail f) (is, number) = line_reads word.Fail line (decimal f.call ++ effect_words f.effect) _ is (ap (option_map (λ f. step.Schedule (plan.Fail f))) (so_failing f number))
so_schedule line (plan.OnDisk p) (inl h) = let d = so_disk_fail line p h in line_reads word.Disk line d.0 _ d.1 (ap (option_map (λ p. step.Schedule (plan.OnDisk p))) d.2)
so_schedule line (plan.OnDisk p) (inr h) = let d = so_stop line p h in line_reads word.Stop line d.0 _ d.1 (ap (option_map (λ p. step.Schedule (plan.OnDisk p))) d.2)

so_event : (line : List ℕ) (event : Event) → IsEventLine line event → step_of_line line ≡ Some (step.Event event)
unfolding step_by_word
so_event line (Sweep moment) (is, number) = line_reads word.Sweep line (decimal moment.0) _ is (ap (option_map (λ moment. step.Event (Sweep (record { 0 = moment })))) ((moment_text (decimal moment.0) moment.0).1 (refl, number)))
so_event line (Order moment who request) o = let d = so_order line moment who request o in line_reads word.Order line d.0 _ d.1 (ap (option_map step.Event) d.2)
so_event line (Hint moment piece) o = let d = so_hint line moment piece o in line_reads word.Hint line d.0 _ d.1 (ap (option_map step.Event) d.2)

so_setup : (line : List ℕ) (asked : SetupLine) → IsSetupLine line asked → step_of_line line ≡ Some (step.Setup asked)
unfolding step_by_word
so_setup line (setup.Rule rule) (text, is, says) = line_reads word.Rule line text _ is (ap (λ (r : Result types.Rule Fault). option_map step.Setup (in_rule r)) (says_line text rule says))
so_setup line (setup.Folder f) (text, is, it) = line_reads word.Folder line text _ is (ap (option_map step.Setup) (so_folder text f it))
so_setup line (setup.Conf text) is = line_reads word.Conf line text _ is refl
so_setup line (setup.Access a) (text, is, gives) = line_reads word.Access line text _ is (ap (option_map step.Setup) ((access_text text a).1 gives))
so_setup line (setup.Seed seed) (digits, is, hex, long) = line_reads word.Seed line digits _ is (ap (option_map (λ seed. step.Setup (setup.Seed seed))) (so_seed digits seed hex long))
so_setup line (setup.Zone offset) z = let d = so_zone line offset z in line_reads word.Zone line d.0 _ d.1 (ap (option_map (λ offset. step.Setup (setup.Zone offset))) d.2)
so_setup line (setup.IfaceRule rule) (text, is, says) = line_reads word.IfaceRule line text _ is (ap (λ (r : Result IfaceRule LineFault). option_map step.Setup (in_iface_rule r)) (iface_line_reads text rule says))

so_moved : (line : List ℕ) (action : Move) → IsMoveLine line action → step_of_line line ≡ Some (step.Move action)
unfolding step_by_word
so_moved line (move.Plug device) p = let d = so_plug line device p in line_reads word.Plug line d.0 _ d.1 (ap (option_map (λ device. step.Move (move.Plug device))) d.2)
so_moved line (move.Unplug name) (is, named) = line_reads word.Unplug line name _ is (ap (option_map (λ name. step.Move (move.Unplug name))) ((name_text name name).1 (named.0, named.1, refl)))
so_moved line (move.Iface (Add new)) p = let d = so_iface line new p in line_reads word.Iface line d.0 _ d.1 (ap (option_map (λ new. step.Move (move.Iface (Add new)))) d.2)
so_moved line (move.Iface (Remove name)) p = let d = so_uniface line name p in line_reads word.Uniface line d.0 _ d.1 (ap (option_map (λ name. step.Move (move.Iface (Remove name)))) d.2)

so_passed : (line : List ℕ) → IsBlankOrComment line → step_of_line line ≡ Some step.Skip
unfolding step_of_line
so_passed line (inl is) = ap step_of_line is
so_passed line (inr (text, is)) =
    ap step_of_line is
    ∙ ap (λ (v : Bool). otherwise v true (pointwise nat_eq (35 ∷ text) (codes "restart")) (cut_by_space reads_word None (35 ∷ text))) (has_some 35 text)

so_restart : step_of_line (codes "restart") ≡ Some step.Restart
unfolding step_of_line
so_restart = refl

pub so_line : (line : List ℕ) (asked : Step) → AsksFor line asked → step_of_line line ≡ Some asked
so_line line step.Skip h = so_passed line h
so_line line (step.Setup asked) h = so_setup line asked h
so_line line (step.Move action) h = so_moved line action h
so_line line (step.Schedule p) h = so_schedule line p h
so_line line (step.Event event) h = so_event line event h
so_line line step.Restart h = ap step_of_line h ∙ so_restart

pub line_text : (line : List ℕ) (asked : Step) → (step_of_line line ≡ Some asked) ↔ AsksFor line asked
line_text line asked = (line_so line asked, so_line line asked)
