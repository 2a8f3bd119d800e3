-- How a list of at least one item holds them, so that a type may lead back to itself through it.
use mathlib.Core.Path.{◌≡◌, refl, sym, subst}
use mathlib.Core.List.{List}
use mathlib.Core.Former.{Former, this, list, via, children}
use base.Stored.{code_map}
use denote.RattleType.{RattleType}
use denote.HoleLaws.{Alike}
use denote.HolePlaces.{Recodes, struct_places, laid}
use denote.Hole.Carrier.{listed, list-listed}
use denote.Hole.Fix.{over}
use denote.Param.Weighed.{Weighed, w_list}
use denote.Model.Placed.{view_places}
use native.Mathlib.Bridge.{le_prop}
use lib.ListN.{length-map}
use Rattle.std.specs.Prelude.{◌≤◌}
use Rattle.std.specs.formers.vec.Vec as vec
use Rattle.std.specs.declared.alloc.Global.{Global}
use Rattle.std.specs.contracts.alloc.Global as heap
use Rattle.std.specs.contracts.impls.GlobalAllocator.TheImpl.{ghosts}
use Rattle.lists.specs.declared.nonempty.Nonempty.TheInside.{Inside}
use Rattle.lists.specs.declared.nonempty.Nonempty.TheView.{view, invariant}
use Rattle.lists.specs.contracts.nonempty.Nonempty as C
use Rattle.lists.specs.contracts.nonempty.Nonempty.TheInside as I

-- it splits as the list of its items does
abbrev pub the_former : Former {0} → Former {0}
the_former inner = list inner

-- it weighs what its heaviest item weighs
abbrev pub the_weighed : {inner : Former {0}} → Weighed inner → Weighed (the_former inner)
the_weighed weight = w_list weight

-- it holds its items, in their order
abbrev pub the_items : (X : Type 0) → List X → List X
the_items X xs = xs

pub the_items_listed : (X : Type 0) (xs : List X) → listed _ (children (the_former this) X xs) ≡ the_items X xs
the_items_listed X xs = list-listed X xs

-- the one field is a vector of the items
abbrev stored : Former {0}
stored = via (vec.the_former this Global) Inside (λ X inside. inside.items) (λ X kept. record { items = kept }) (λ X inside. refl) (λ X kept. refl)

module _ (R S : RattleType) (h : R.Denot → S.Denot) where
  -- over two types that are laid out alike it is laid out alike, and one item stays one
  pub the_places : Alike R S h → Alike (C.the_row R) (C.the_row S) ((the_former this).map R.Denot S.Denot h)
  the_places alike =
      let same_vectors = vec.the_places heap.the_row ghosts R S h alike in
      view_places stored (list this) view (λ X Y f u. refl) (λ X u. refl) R.Denot S.Denot h (C.the_row R).coded (C.the_row S).coded
      (invariant R.Denot) (invariant S.Denot) (λ u p q. le_prop p q) (λ u p q. le_prop p q)
      (λ u e. subst (λ n. 1 ≤ n) (sym (length-map u.items.items h)) e) (λ u e. subst (λ n. 1 ≤ n) (length-map u.items.items h) e)
      (over (I.the_row R)) (over (I.the_row S))
      (struct_places (I.the_type R) (I.the_type S) (vec.mapped h, tt) _ (λ d. refl) refl (laid _ _ _ same_vectors, tt))

  -- its code is the list of its items' codes
  pub the_codes_placed : Recodes R S h → Recodes (C.the_row R) (C.the_row S) ((the_former this).map R.Denot S.Denot h)
  the_codes_placed codes xs = sym (code_map R.coded.code S.coded.code h (λ x. sym (codes x)) xs)
