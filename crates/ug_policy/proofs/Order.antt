-- The folder's rules stay before those of the rule file.
use Rattle.std.proofs.Common.{◌≡◌, ℕ, zero, suc, ◌<◌, ◌≤◌, ◌+◌, add-one, Bool, true, false, not, ◌||◌, cond, List, [], ◌∷◌, ◌++◌, inl, inr, length, drop, take, get_or, refl, sym, ap, ◌∙◌, subst, arith}
use Rattle.std.specs.List.{filter, flat_map, insert, list_any}
use Rattle.std.proofs.lemmas.Bool.{eq-eqb, ne_eqb}
use Rattle.std.proofs.lemmas.List.{length-map, length-take-le, take_more}
use Rattle.ug_types.specs.Elements.{AllDistinct, Has}
use Rattle.ug_types.specs.declared.rule.After.{After}
use Rattle.ug_types.specs.declared.rule.After.TheVariants as after
use Rattle.ug_types.specs.declared.verdict.Target.{Target}
use Rattle.ug_policy.specs.Edits.{IsThere, KeepsMarkOrder, aimed, at_front, folder_behind, followed, has_id, inserted, removed, retargeted}
use Rattle.ug_policy.specs.Marks.{FolderFirst, folder_end, has_folder, is_folder, is_permanent}
use Rattle.ug_policy.specs.Rules.{ids, marks}
use Rattle.ug_policy.specs.declared.entry.Mark.{Mark}
use Rattle.ug_policy.specs.declared.entry.Mark.TheVariants as mark
use Rattle.ug_policy.specs.declared.entry.RuleEntry.{RuleEntry}
use Rattle.ug_policy.proofs.Changes.{followed_first}
use Rattle.ug_policy.proofs.Members.{has_ids}
use Rattle.ug_policy.proofs.FirstPlaces.{FirstAt}
use Rattle.ug_types.proofs.Elements.{has_right}

marks_insert : (es : List RuleEntry) (i : ℕ) (y : RuleEntry) → marks (insert es i y) ≡ insert (marks es) i y.mark
marks_insert [] zero y = refl
marks_insert [] (suc i) y = refl
marks_insert (e ∷ es) zero y = refl
marks_insert (e ∷ es) (suc i) y = ap (λ v. e.mark ∷ v) (marks_insert es i y)

-- ---- one more, not of the folder

folder_insert : (ms : List Mark) (i : ℕ) (m : Mark) → is_folder m ≡ false → has_folder (insert ms i m) ≡ has_folder ms
folder_insert [] zero m h = ap (λ (b : Bool). b || false) h
folder_insert [] (suc i) m h = ap (λ (b : Bool). b || false) h
folder_insert (n ∷ ms) zero m h = ap (λ (b : Bool). b || has_folder (n ∷ ms)) h
folder_insert (n ∷ ms) (suc i) m h = ap (λ (b : Bool). is_folder n || b) (folder_insert ms i m h)

first_insert : (ms : List Mark) (i : ℕ) (m : Mark) → FolderFirst ms → is_folder m ≡ false → (is_permanent m ≡ true → has_folder (drop i ms) ≡ false) → FolderFirst (insert ms i m)
first_insert [] zero m f h k = (λ p. refl, tt)
first_insert [] (suc i) m f h k = (λ p. refl, tt)
first_insert (n ∷ ms) zero m f h k = (k, f)
first_insert (n ∷ ms) (suc i) m f h k = (λ p. folder_insert ms i m h ∙ f.0 p, first_insert ms i m f.1 h k)

-- ---- one more of the folder, where none is of the rule file

none_permanent : (ms : List Mark) → list_any is_permanent ms ≡ false → FolderFirst ms
none_permanent [] h = tt
none_permanent (m ∷ ms) h = by (is_permanent m) refl h (λ k. none_permanent ms k)
  where
    by : (b : Bool) → is_permanent m ≡ b → (b || list_any is_permanent ms) ≡ false → (list_any is_permanent ms ≡ false → FolderFirst ms) → FolderFirst (m ∷ ms)
    by true is k rest = let none : ⊥ = cc in absurd none
    by false is k rest = (λ p. let none : ⊥ = cc in absurd none, rest k)

permanent_append : (ms : List Mark) → list_any is_permanent ms ≡ false → list_any is_permanent (ms ++ mark.Folder ∷ []) ≡ false
permanent_append [] h = refl
permanent_append (m ∷ ms) h = by (is_permanent m) h (λ k. permanent_append ms k)
  where
    by : (b : Bool) → (b || list_any is_permanent ms) ≡ false → (list_any is_permanent ms ≡ false → list_any is_permanent (ms ++ mark.Folder ∷ []) ≡ false) → (b || list_any is_permanent (ms ++ mark.Folder ∷ [])) ≡ false
    by true k rest = k
    by false k rest = rest k

-- ---- the end

marks_append : (es fs : List RuleEntry) → marks (es ++ fs) ≡ marks es ++ marks fs
marks_append [] fs = refl
marks_append (e ∷ es) fs = ap (λ (v : List Mark). e.mark ∷ v) (marks_append es fs)

first_append : (ms : List Mark) (m : Mark) → FolderFirst ms → is_folder m ≡ false → FolderFirst (ms ++ m ∷ [])
first_append [] m f h = (λ p. refl, tt)
first_append (n ∷ ms) m f h = (λ p. folder_append ms ∙ f.0 p, first_append ms m f.1 h)
  where
    folder_append : (ns : List Mark) → has_folder (ns ++ m ∷ []) ≡ has_folder ns
    folder_append [] = ap (λ (b : Bool). b || false) h
    folder_append (k ∷ ns) = ap (λ (b : Bool). is_folder k || b) (folder_append ns)

-- ---- behind the folder's

-- none of them stands there
none_behind : (ms : List Mark) → has_folder (drop (folder_end ms) ms) ≡ false
none_behind [] = refl
none_behind (m ∷ ms) = by (has_folder (m ∷ ms)) refl (none_behind ms)
  where
    by : (b : Bool) → has_folder (m ∷ ms) ≡ b → has_folder (drop (folder_end ms) ms) ≡ false → has_folder (drop (cond b (suc (folder_end ms)) zero) (m ∷ ms)) ≡ false
    by true is rest = rest
    by false is rest = is

pub end_within : (es : List RuleEntry) → folder_end (marks es) ≤ length es
end_within [] = omega arith
end_within (e ∷ es) = by (has_folder (marks (e ∷ es))) (end_within es)
  where
    by : (b : Bool) → folder_end (marks es) ≤ length es → cond b (suc (folder_end (marks es))) zero ≤ suc (length es)
    by true rest = omega (arith, rest)
    by false rest = omega arith

-- the first rule of that id, and what stands behind
behind_first : (id : ℕ) (es : List RuleEntry) (i : ℕ) (e : RuleEntry) → FirstAt (has_id id) es i e → has_folder (drop (suc i) (marks es)) ≡ folder_behind id es
behind_first id [] i e h = absurd h
behind_first id (f ∷ es) zero e h = sym (ap (λ (b : Bool). cond b (has_folder (marks es)) (folder_behind id es)) h.1)
behind_first id (f ∷ es) (suc i) e h = behind_first id es i e h.1 ∙ sym (ap (λ (b : Bool). cond b (has_folder (marks es)) (folder_behind id es)) h.0)

pub behind_place : (id : ℕ) (es : List RuleEntry) (i : ℕ) (e : RuleEntry) → FirstAt (has_id id) es i e → has_folder (marks (drop (i + 1) es)) ≡ folder_behind id es
behind_place id es i e h = ap has_folder (marks_drop (i + 1) es) ∙ ap (λ (n : ℕ). has_folder (drop n (marks es))) (add-one i) ∙ behind_first id es i e h
  where
    marks_drop : (n : ℕ) (fs : List RuleEntry) → marks (drop n fs) ≡ drop n (marks fs)
    marks_drop zero fs = refl
    marks_drop (suc n) [] = refl
    marks_drop (suc n) (f ∷ fs) = marks_drop n fs

pub any_folder : (es : List RuleEntry) → list_any (λ (e : RuleEntry). is_folder e.mark) es ≡ has_folder (marks es)
any_folder [] = refl
any_folder (e ∷ es) = ap (λ (b : Bool). is_folder e.mark || b) (any_folder es)

-- ---- changes

-- at a place behind which none of the folder stands, if it is permanent
pub order_at : (es : List RuleEntry) (i : ℕ) (y : RuleEntry) → FolderFirst (marks es) → is_folder y.mark ≡ false → (is_permanent y.mark ≡ true → has_folder (drop i (marks es)) ≡ false) → FolderFirst (marks (insert es i y))
order_at es i y f h k = subst FolderFirst (sym (marks_insert es i y)) (first_insert (marks es) i y.mark f h k)

order_front : (added : RuleEntry) (es : List RuleEntry) → FolderFirst (marks es) → is_folder added.mark ≡ false → FolderFirst (marks (at_front added es))
order_front added es f h = by (is_permanent added.mark) refl
  where
    by : (b : Bool) → is_permanent added.mark ≡ b → FolderFirst (marks (cond b (insert es (folder_end (marks es)) added) (added ∷ es)))
    by true is = order_at es (folder_end (marks es)) added f h (λ p. none_behind (marks es))
    by false is = (λ p. let none : ⊥ = cc in absurd none, f)

order_end : (added : RuleEntry) (es : List RuleEntry) → FolderFirst (marks es) → is_folder added.mark ≡ false → FolderFirst (marks (es ++ added ∷ []))
order_end added es f h = subst FolderFirst (sym (marks_append es (added ∷ []))) (first_append (marks es) added.mark f h)

-- behind the rule of that id, which stands at that place
order_behind : (id : ℕ) (added : RuleEntry) (es : List RuleEntry) (i : ℕ) (e : RuleEntry) → AllDistinct (ids es) → FirstAt (has_id id) es i e → FolderFirst (marks es) → is_folder added.mark ≡ false → (is_permanent added.mark ≡ true → folder_behind id es ≡ false) → FolderFirst (marks (flat_map (followed id added) es))
order_behind id added es i e d at f h k =
    subst (λ (v : List RuleEntry). FolderFirst (marks v)) (sym (followed_first id added es i e d at))
    (order_at es (suc i) added f h (λ p. behind_first id es i e at ∙ k p))

order_folder : (place : After) (added : RuleEntry) (es : List RuleEntry) → added.mark ≡ mark.Folder → place ≡ after.End → list_any is_permanent (marks es) ≡ false → FolderFirst (marks (inserted place added es))
order_folder place added es is end none =
    subst (λ (p : After). FolderFirst (marks (inserted p added es))) (sym end)
    (subst FolderFirst (sym (marks_append es (added ∷ []) ∙ ap (λ (m : Mark). marks es ++ m ∷ []) is)) (none_permanent (marks es ++ mark.Folder ∷ []) (permanent_append (marks es) none)))

-- where the rule of that id stands
first_of_id : (id : ℕ) (es : List RuleEntry) → Has (ids es) id → (i : ℕ) × (e : RuleEntry) × FirstAt (has_id id) es i e
first_of_id id [] h = absurd h
first_of_id id (e ∷ es) h = by (has_id id e) refl h (λ k. first_of_id id es k)
  where
    by : (b : Bool) → has_id id e ≡ b → Has (e.id ∷ ids es) id → (Has (ids es) id → (i : ℕ) × (f : RuleEntry) × FirstAt (has_id id) es i f) → (i : ℕ) × (f : RuleEntry) × FirstAt (has_id id) (e ∷ es) i f
    by true is k more = (zero, e, (refl, is))
    by false is (inl same) more = let hit = eq-eqb e.id id same in let none : ⊥ = cc in absurd none
    by false is (inr k) more = let rest = more k in (suc rest.0, rest.1, (is, rest.2))

pub order_inserted : (place : After) (added : RuleEntry) (es : List RuleEntry) (whose : Mark) → added.mark ≡ whose → AllDistinct (ids es) → IsThere place es → KeepsMarkOrder place whose es → FolderFirst (marks es) → FolderFirst (marks (inserted place added es))
order_inserted place added es mark.Folder is d there keeps f = order_folder place added es is keeps.0 keeps.1
order_inserted after.End added es mark.File is d there keeps f = order_end added es f (ap is_folder is)
order_inserted after.End added es mark.Temporary is d there keeps f = order_end added es f (ap is_folder is)
order_inserted after.Front added es mark.File is d there keeps f = order_front added es f (ap is_folder is)
order_inserted after.Front added es mark.Temporary is d there keeps f = order_front added es f (ap is_folder is)
order_inserted (after.Rule id) added es mark.File is d there keeps f =
    let at = first_of_id id es there in
    order_behind id added es at.0 at.1 d at.2 f (ap is_folder is) (λ p. keeps)
order_inserted (after.Rule id) added es mark.Temporary is d there keeps f =
    let at = first_of_id id es there in
    order_behind id added es at.0 at.1 d at.2 f (ap is_folder is) (λ p. let temporary : is_permanent added.mark ≡ false = ap is_permanent is in let none : ⊥ = cc in absurd none)

folder_filter : (p : RuleEntry → Bool) (es : List RuleEntry) → has_folder (marks es) ≡ false → has_folder (marks (filter p es)) ≡ false
folder_filter p [] h = refl
folder_filter p (e ∷ es) h = by (is_folder e.mark) refl h (p e) (λ k. folder_filter p es k)
  where
    by : (b : Bool) → is_folder e.mark ≡ b → (b || has_folder (marks es)) ≡ false → (c : Bool) → (has_folder (marks es) ≡ false → has_folder (marks (filter p es)) ≡ false) → has_folder (marks (cond c (e ∷ filter p es) (filter p es))) ≡ false
    by true is k c rest = let none : ⊥ = cc in absurd none
    by false is k true rest = ap (λ (b : Bool). b || has_folder (marks (filter p es))) is ∙ rest k
    by false is k false rest = rest k

order_filter : (p : RuleEntry → Bool) (es : List RuleEntry) → FolderFirst (marks es) → FolderFirst (marks (filter p es))
order_filter p [] f = tt
order_filter p (e ∷ es) f = by (p e) (order_filter p es f.1)
  where
    by : (c : Bool) → FolderFirst (marks (filter p es)) → FolderFirst (marks (cond c (e ∷ filter p es) (filter p es)))
    by true rest = (λ k. folder_filter p es (f.0 k), rest)
    by false rest = rest

pub order_removed : (id : ℕ) (es : List RuleEntry) → FolderFirst (marks es) → FolderFirst (marks (removed id es))
order_removed id es f = order_filter (λ e. not (has_id id e)) es f

pub marks_retargeted : (id : ℕ) (target : Target) (es : List RuleEntry) → marks (retargeted id target es) ≡ marks es
marks_retargeted id target [] = refl
marks_retargeted id target (e ∷ es) = ap (λ (v : Mark). v ∷ marks (retargeted id target es)) (same (has_id id e)) ∙ ap (λ (v : List Mark). e.mark ∷ v) (marks_retargeted id target es)
  where
    same : (b : Bool) → (cond b (aimed target e) e).mark ≡ e.mark
    same true = refl
    same false = refl

-- ---- the folder's end, rule by rule

or_true : (b : Bool) → (b || true) ≡ true
or_true true = refl
or_true false = refl

folder_last : (ms : List Mark) (m : Mark) → is_folder m ≡ true → has_folder (ms ++ m ∷ []) ≡ true
folder_last [] m h = ap (λ (b : Bool). b || false) h
folder_last (n ∷ ms) m h = ap (λ (b : Bool). is_folder n || b) (folder_last ms m h) ∙ or_true (is_folder n)

folder_same : (ms : List Mark) (m : Mark) → is_folder m ≡ false → has_folder (ms ++ m ∷ []) ≡ has_folder ms
folder_same [] m h = ap (λ (b : Bool). b || false) h
folder_same (n ∷ ms) m h = ap (λ (b : Bool). is_folder n || b) (folder_same ms m h)

end_after : (ms : List Mark) (m : Mark) → is_folder m ≡ true → folder_end (ms ++ m ∷ []) ≡ suc (length ms)
end_after [] m h = ap (λ (b : Bool). cond (b || false) (suc zero) zero) h
end_after (n ∷ ms) m h =
    ap (λ (b : Bool). cond (is_folder n || b) (suc (folder_end (ms ++ m ∷ []))) zero) (folder_last ms m h)
    ∙ ap (λ (b : Bool). cond b (suc (folder_end (ms ++ m ∷ []))) zero) (or_true (is_folder n))
    ∙ ap suc (end_after ms m h)

end_same : (ms : List Mark) (m : Mark) → is_folder m ≡ false → folder_end (ms ++ m ∷ []) ≡ folder_end ms
end_same [] m h = ap (λ (b : Bool). cond (b || false) (suc zero) zero) h
end_same (n ∷ ms) m h =
    ap (λ (b : Bool). cond (is_folder n || b) (suc (folder_end (ms ++ m ∷ []))) zero) (folder_same ms m h)
    ∙ ap (λ (i : ℕ). cond (has_folder (n ∷ ms)) (suc i) zero) (end_same ms m h)

marks_more : (es : List RuleEntry) (i : ℕ) (e : RuleEntry) → i < length es → folder_end (marks (take (i + 1) es)) ≡ folder_end (marks (take i es) ++ (get_or es i e).mark ∷ [])
marks_more es i e within = ap (λ (v : List RuleEntry). folder_end (marks v)) (take_more es i e within) ∙ ap folder_end (marks_append (take i es) (get_or es i e ∷ []))

-- the rule at a place is looked at
pub end_more : (es : List RuleEntry) (i : ℕ) (e : RuleEntry) → i < length es → is_folder (get_or es i e).mark ≡ true → folder_end (marks (take (i + 1) es)) ≡ i + 1
end_more es i e within h =
    let long : length (marks (take i es)) ≡ i = length-map (take i es) (λ (f : RuleEntry). f.mark) ∙ length-take-le i es (omega (arith, within)) in
    marks_more es i e within ∙ end_after (marks (take i es)) (get_or es i e).mark h ∙ omega (arith, long)

pub end_stays : (es : List RuleEntry) (i : ℕ) (e : RuleEntry) → i < length es → is_folder (get_or es i e).mark ≡ false → folder_end (marks (take (i + 1) es)) ≡ folder_end (marks (take i es))
end_stays es i e within h = marks_more es i e within ∙ end_same (marks (take i es)) (get_or es i e).mark h

-- ---- in the words of lists

has_so : (es : List RuleEntry) (f : RuleEntry) → Has es f → f.mark ≡ mark.Folder → has_folder (marks es) ≡ true
has_so [] f there is = absurd there
has_so (e ∷ es) f (inl same) is = ap (λ (m : Mark). is_folder m || has_folder (marks es)) (ap (λ (x : RuleEntry). x.mark) same ∙ is)
has_so (e ∷ es) f (inr there) is = ap (λ (b : Bool). is_folder e.mark || b) (has_so es f there is) ∙ or_true (is_folder e.mark)

folder_mark : (m : Mark) → is_folder m ≡ true → m ≡ mark.Folder
folder_mark mark.Folder h = refl
folder_mark mark.File h = let none : ⊥ = cc in absurd none
folder_mark mark.Temporary h = let none : ⊥ = cc in absurd none

pub none_so : (es : List RuleEntry) → ((f : RuleEntry) → Has es f → f.mark ≡ mark.Folder → ⊥) → has_folder (marks es) ≡ false
none_so [] h = refl
none_so (e ∷ es) h = by (is_folder e.mark) refl (none_so es (λ f there. h f (inr there)))
  where
    by : (b : Bool) → is_folder e.mark ≡ b → has_folder (marks es) ≡ false → (b || has_folder (marks es)) ≡ false
    by true is rest = absurd (h e (inl refl) (folder_mark e.mark is))
    by false is rest = rest

permanent_mark : (m : Mark) → is_permanent m ≡ true → m ≡ mark.File
permanent_mark mark.Folder h = let none : ⊥ = cc in absurd none
permanent_mark mark.File h = refl
permanent_mark mark.Temporary h = let none : ⊥ = cc in absurd none

-- none of the rule file stands before one of the folder
abbrev IsSplitSo : List RuleEntry → Type 0
IsSplitSo es = (front back : List RuleEntry) (rule other : RuleEntry) → es ≡ front ++ rule ∷ back → rule.mark ≡ mark.File → Has back other → other.mark ≡ mark.Folder → ⊥

split_from : (front back : List RuleEntry) (rule other : RuleEntry) → FolderFirst (marks (front ++ rule ∷ back)) → rule.mark ≡ mark.File → Has back other → other.mark ≡ mark.Folder → ⊥
split_from [] back rule other f is there folder =
    let no : has_folder (marks back) ≡ false = f.0 (ap is_permanent is) in
    let yes : has_folder (marks back) ≡ true = has_so back other there folder in
    let none : ⊥ = cc in
    none
split_from (e ∷ front) back rule other f is there folder = split_from front back rule other f.1 is there folder

first_from_split : (es : List RuleEntry) → IsSplitSo es → FolderFirst (marks es)
first_from_split [] h = tt
first_from_split (e ∷ es) h = (
  λ p. none_so es (λ f there folder. h [] es e f refl (permanent_mark e.mark p) there folder),
  first_from_split es (λ front back rule other is. h (e ∷ front) back rule other (ap (λ (v : List RuleEntry). e ∷ v) is)),
)

pub order_so : (es : List RuleEntry) → (FolderFirst (marks es) → IsSplitSo es) × (IsSplitSo es → FolderFirst (marks es))
order_so es = (
  λ f front back rule other is. split_from front back rule other (subst (λ (v : List RuleEntry). FolderFirst (marks v)) is f),
  first_from_split es,
)

end_none : (ms : List Mark) → has_folder ms ≡ false → folder_end ms ≡ zero
end_none [] h = refl
end_none (m ∷ ms) h = ap (λ (b : Bool). cond b (suc (folder_end ms)) zero) h

insert_zero : (es : List RuleEntry) (y : RuleEntry) → insert es zero y ≡ y ∷ es
insert_zero [] y = refl
insert_zero (e ∷ es) y = refl

front_none : (es : List RuleEntry) (added : RuleEntry) → has_folder (marks es) ≡ false → at_front added es ≡ added ∷ es
front_none es added h = by (is_permanent added.mark)
  where
    by : (b : Bool) → cond b (insert es (folder_end (marks es)) added) (added ∷ es) ≡ added ∷ es
    by true = ap (λ (i : ℕ). insert es i added) (end_none (marks es) h) ∙ insert_zero es added
    by false = refl

pub in_front_of_none : (es : List RuleEntry) (added : RuleEntry) → ((f : RuleEntry) → Has es f → f.mark ≡ mark.Folder → ⊥) → at_front added es ≡ added ∷ es
in_front_of_none es added h = front_none es added (none_so es h)

end_split : (front back : List RuleEntry) (last : RuleEntry) → is_folder last.mark ≡ true → has_folder (marks back) ≡ false → folder_end (marks (front ++ last ∷ back)) ≡ suc (length front)
end_split [] back last is none =
    ap (λ (b : Bool). cond (b || has_folder (marks back)) (suc (folder_end (marks back))) zero) is
    ∙ ap suc (end_none (marks back) none)
end_split (e ∷ front) back last is none =
    ap (λ (b : Bool). cond (is_folder e.mark || b) (suc (folder_end (marks (front ++ last ∷ back)))) zero) (has_split front)
    ∙ ap (λ (b : Bool). cond b (suc (folder_end (marks (front ++ last ∷ back)))) zero) (or_true (is_folder e.mark))
    ∙ ap suc (end_split front back last is none)
  where
    has_split : (es : List RuleEntry) → has_folder (marks (es ++ last ∷ back)) ≡ true
    has_split [] = ap (λ (b : Bool). b || has_folder (marks back)) is
    has_split (f ∷ es) = ap (λ (b : Bool). is_folder f.mark || b) (has_split es) ∙ or_true (is_folder f.mark)

insert_split : (front back : List RuleEntry) (last y : RuleEntry) → insert (front ++ last ∷ back) (suc (length front)) y ≡ front ++ last ∷ y ∷ back
insert_split [] back last y = ap (λ (v : List RuleEntry). last ∷ v) (insert_zero back y)
insert_split (e ∷ front) back last y = ap (λ (v : List RuleEntry). e ∷ v) (insert_split front back last y)

pub behind_last : (front back : List RuleEntry) (last added : RuleEntry) → last.mark ≡ mark.Folder → ((f : RuleEntry) → Has back f → f.mark ≡ mark.Folder → ⊥) → added.mark ≡ mark.File → at_front added (front ++ last ∷ back) ≡ front ++ last ∷ added ∷ back
behind_last front back last added is none file =
    ap (λ (m : Mark). cond (is_permanent m) (insert (front ++ last ∷ back) (folder_end (marks (front ++ last ∷ back))) added) (added ∷ front ++ last ∷ back)) file
    ∙ ap (λ (i : ℕ). insert (front ++ last ∷ back) i added) (end_split front back last (ap is_folder is) (none_so back none))
    ∙ insert_split front back last added

pub before_all : (es : List RuleEntry) (added : RuleEntry) → added.mark ≡ mark.Temporary → at_front added es ≡ added ∷ es
before_all es added is = ap (λ (m : Mark). cond (is_permanent m) (insert es (folder_end (marks es)) added) (added ∷ es)) is

pub behind_rule : (front back : List RuleEntry) (rule : RuleEntry) → AllDistinct (ids (front ++ rule ∷ back)) → folder_behind rule.id (front ++ rule ∷ back) ≡ has_folder (marks back)
behind_rule [] back rule d = ap (λ (b : Bool). cond b (has_folder (marks back)) (folder_behind rule.id back)) (eq-eqb rule.id rule.id refl)
behind_rule (e ∷ front) back rule d =
    ap (λ (b : Bool). cond b (has_folder (marks (front ++ rule ∷ back))) (folder_behind rule.id (front ++ rule ∷ back))) (ne_eqb e.id rule.id (λ same. d.0 (subst (Has (ids (front ++ rule ∷ back))) (sym same) (has_ids (front ++ rule ∷ back) rule (has_right front (rule ∷ back) rule (inl refl))))))
    ∙ behind_rule front back rule d.1
