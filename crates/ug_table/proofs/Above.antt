-- The binding of a name beside the standing of its parent, if that has one.
use Rattle.std.proofs.Common.{◌≡◌, ℕ, List, Option, Some, None, refl, sym, ◌∙◌, ap, subst, slice_get}
use Rattle.ug_types.specs.declared.record.Attrs.{Attrs}
use Rattle.ug_kernel.proofs.Ways.{sure_ways, ways_of}
use Rattle.ug_kernel.specs.Bind.{binding_under}
use Rattle.ug_kernel.specs.Bound.{attrs_of, parent_attrs_of, IsParentRead, IsBoundBy, IsBindingBy}
use Rattle.ug_kernel.specs.Removal.{IsAuthorizedFile}
use Rattle.ug_kernel.specs.Under.{IsParentKept}
use Rattle.ug_kernel.proofs.BindShapes.{sure_binding}
use Rattle.ug_kernel.proofs.Laws.{binding_law}
use Rattle.ug_kernel.proofs.UnderShapes.{Under_by, under_by, under_law}
use Rattle.ug_record.specs.Records.{judged_under}
use Rattle.ug_record.proofs.Judging.{judged_with_parent}
use Rattle.ug_table.specs.Parent.{standing_above, judged_beside}
use Rattle.ug_table.proofs.MapChanges.{named_has}
use Rattle.ug_table.proofs.Common.{Has, Kernel, IsKernel, Device, Standing, Stand, IsDevice, Bound, Binding, Made, Runs, Ways, Sure, Way, ways_more, calls, parent_of, parent_standing, binding_by, judged_bound, judged_of}
use Rattle.ug_table.proofs.Standings.{Files, file_same}

-- that standing is the parent's
abbrev pub OfParent : List ℕ → Option Standing → Type 0
OfParent name None = Unit {0}
OfParent name (Some s) = parent_of name ≡ Some s.name

pub above_has : (name : List ℕ) (ss : List Standing) (s : Standing) → parent_standing name ss ≡ Some s → Has ss s × (parent_of name ≡ Some s.name)
above_has name ss s e = by (parent_of name) refl e
  where
    by : (o : Option (List ℕ)) → parent_of name ≡ o → standing_above o ss ≡ Some s → Has ss s × (parent_of name ≡ Some s.name)
    by None f g = let none : ⊥ = cc in absurd none
    by (Some parent) f g = let h = named_has parent ss s g in (h.0, f ∙ ap (λ (v : List ℕ). Some v) (sym h.1))

pub is_above : (name : List ℕ) (ss : List Standing) → OfParent name (parent_standing name ss)
is_above name ss = by (parent_standing name ss) refl
  where
    by : (o : Option Standing) → parent_standing name ss ≡ o → OfParent name o
    by None e = tt
    by (Some s) e = (above_has name ss s e).1

-- each way is one

pub sure_for : (name : List ℕ) (o : Option Standing) → OfParent name o → Ways (binding_by name o) (Sure (Way (binding_by name o)))
sure_for name None above = sure_binding name
sure_for name (Some s) above = sure_ways (Under_by name s.name s.held.0) (binding_under name s.name s.held.0) (under_by name s.name s.held.0 above)

pub way_under : (name : List ℕ) (s : Standing) (ms : List Made) (r : Binding) → parent_of name ≡ Some s.name → Way (binding_under name s.name s.held.0) ms r → Under_by name s.name s.held.0 ms r
way_under name s ms r above way =
    let U : List Made → Binding → Type 0 = Under_by name s.name s.held.0 in
    ways_of U (binding_under name s.name s.held.0) ms r (ways_more (Sure U) (λ ok ns x. U ns x) (binding_under name s.name s.held.0) (λ ok ns x h. h.1) (under_by name s.name s.held.0 above)) way

-- its law

-- what is said of the parent
abbrev pub ParentsBy : Option Standing → Kernel → Option ℕ → Option Attrs → Type 0
ParentsBy None = IsParentRead
ParentsBy (Some s) = IsParentKept s.held.0

-- the parent's held file is the parent's
abbrev pub IsKeptAt : Kernel → List ℕ → Option Standing → Type 0
IsKeptAt k name None = Unit {0}
IsKeptAt k name (Some s) = (parent_of name ≡ Some s.name) × ((j : ℕ) × IsAuthorizedFile k s.name s.held.0 j)

pub kept_at : (k : Kernel) (name : List ℕ) (ss : List Standing) → Files k ss → IsKeptAt k name (parent_standing name ss)
kept_at k name ss files = by (parent_standing name ss) refl
  where
    by : (o : Option Standing) → parent_standing name ss ≡ o → IsKeptAt k name o
    by None e = tt
    by (Some s) e =
        let h = above_has name ss s e in
        let x = files s h.0 in
        (h.1, (x.i, record { d = x.d; file = x.file; device = x.device; named = x.named }))

pub for_law : (name : List ℕ) (o : Option Standing) (r : Binding) (k l : Kernel) → IsKernel k → IsKeptAt k name o → Runs calls k (binding_by name o) r l → IsBindingBy (ParentsBy o) name k l r
for_law name None r k l sound at runs = binding_law name (parent_of name) r k l refl sound runs
for_law name (Some s) r k l sound at runs = under_law name s.name s.held.0 at.1.0 r k l at.0 at.1.1 sound runs

-- the record of a bound device

-- the parent's files, of which it is
record ParentsFiles (l : Kernel) (p : Option ℕ) (o : Option Standing) (read : Option Attrs) : Type 0 where
  parent : Option Attrs
  is : IsParentRead l p parent
  same : (name : List ℕ) (attrs : Attrs) → judged_beside name attrs o read ≡ judged_of name attrs parent

parents_files : (l : Kernel) (ss : List Standing) (next : ℕ) (p : Option ℕ) (o : Option Standing) (read : Option Attrs) → Stand l ss next → ((s : Standing) → o ≡ Some s → Has ss s) → ParentsBy o l p read → ParentsFiles l p o read
parents_files l ss next p None read stand there h = record { parent = read; is = h; same = λ name attrs. refl }
parents_files l ss next p (Some s) (Some attrs) stand there h = record { parent = Some attrs; is = h; same = λ name own. refl }
parents_files l ss next p (Some s) None stand there h =
    let has = there s refl in
    let x = stand.devices s has in
    let d : Device = x.1.d in
    let is : x.0 ≡ h.0 = file_same l s.held.0 x.0 h.0 x.1.file h.2 in
    let hash = stand.hashes s has x.0 d x.1.file x.1.device in
    record {
      parent = Some (parent_attrs_of d);
      is = subst (λ (v : Option ℕ). IsParentRead l v (Some (parent_attrs_of d))) (sym h.1) (d, subst (λ (v : ℕ). slice_get l.devices v ≡ Some d) is x.1.device, refl);
      same = λ name attrs. ap (λ (v : List ℕ). judged_under name attrs v) hash ∙ judged_with_parent name attrs (attrs_of d) (parent_attrs_of d) refl refl refl;
    }

pub bound_record : (name : List ℕ) (k l : Kernel) (ss : List Standing) (next : ℕ) (b : Bound) → Stand l ss next → (x : IsBoundBy (ParentsBy (parent_standing name ss)) name k l b) → IsDevice l x.i name b.held (judged_bound name ss b)
bound_record name k l ss next b stand x =
    let o : Option Standing = parent_standing name ss in
    let y = parents_files l ss next x.d.parent o b.parent stand (λ s e. (above_has name ss s e).0) x.parents in
    let named : judged_of name b.attrs y.parent ≡ judged_of x.d.name b.attrs y.parent = ap (λ (v : List ℕ). judged_of v b.attrs y.parent) (sym x.named) in
    let own : judged_of x.d.name b.attrs y.parent ≡ judged_of x.d.name (attrs_of x.d) y.parent = ap (λ (v : Attrs). judged_of x.d.name v y.parent) x.own in
    record { d = x.d; device = x.device; file = x.file; named = x.named; of = (y.parent, y.is, y.same name b.attrs ∙ named ∙ own) }
