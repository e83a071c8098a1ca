-- A record cut at its commas, one field after the other. Assumes nothing.
use mathlib.Core.Path.{◌≡◌, refl, sym, ap, subst, ◌∙◌}
use mathlib.Core.Bool.{Bool, true, false}
use mathlib.Core.List.{List, [], ◌∷◌}
use Prim.Native.Nat.{ℕ, ◌≤◌}
use native.Mathlib.Omega.{arith}
use denote.Param.Members.{Mut}
use denote.Ref.{Bor}
use lib.Dec.{eqb}
use lib.ListN.{length, get_or}
use Rattle.std.specs.Fn.{CalledAt}
use Rattle.std.specs.List.{slice_split}
use Rattle.std.specs.Option.{MatchOption}
use Rattle.std.specs.Prelude.{Option, Some, None}
use Rattle.std.specs.declared.slice.Split.{Split}
use Rattle.std.specs.Slice.Iter.{split_rest, split_done, split_callee, split_steps}
use Rattle.std.proofs.lemmas.Iterator.{YieldsList}
use Rattle.std.proofs.lemmas.Iterator.Splits.{YieldsList-from_slice_split}
use Rattle.std.proofs.lemmas.List.Splits.{length-slice_split, slice_split-cons_yes, slice_split-cons_no}
use Rattle.wsgs.specs.declared.Operation.{Operation}
use Rattle.wsgs.specs.Records.{names, look_up, field}
use Rattle.wsgs.specs.Text.{comma, reversed, fields_from, fields}

abbrev is_comma : ℕ → Bool
is_comma b = eqb b comma

-- a field ends at a comma, and goes on over another byte
module _ (x : ℕ) (xs begun : List ℕ) where
  field_ends : eqb x comma ≡ true → fields_from (x ∷ xs) begun ≡ reversed begun [] ∷ fields_from xs []
  unfolding fields_from
  field_ends e = rw (e, fields_from)

  field_goes_on : eqb x comma ≡ false → fields_from (x ∷ xs) begun ≡ fields_from xs (x ∷ begun)
  unfolding fields_from
  field_goes_on e = rw (e, fields_from)

-- a text has a field
some_field : (t begun : List ℕ) → 1 ≤ length (fields_from t begun)
unfolding fields_from
some_field [] begun = omega arith
some_field (x ∷ xs) begun = go (eqb x comma) refl (some_field xs (x ∷ begun))
  where
    go : (b : Bool) → eqb x comma ≡ b → 1 ≤ length (fields_from xs (x ∷ begun)) → 1 ≤ length (fields_from (x ∷ xs) begun)
    go true e rest = rw (field_ends x xs begun e) (omega arith)
    go false e rest = rw (field_goes_on x xs begun e) rest

-- how many begin in a text does not hang on what is read of the first
same_count : (t begun begun' : List ℕ) → length (fields_from t begun) ≡ length (fields_from t begun')
unfolding fields_from
same_count [] begun begun' = refl
same_count (x ∷ xs) begun begun' = go (eqb x comma) refl (same_count xs (x ∷ begun) (x ∷ begun'))
  where
    go : (b : Bool) → eqb x comma ≡ b → length (fields_from xs (x ∷ begun)) ≡ length (fields_from xs (x ∷ begun'))
        → length (fields_from (x ∷ xs) begun) ≡ length (fields_from (x ∷ xs) begun')
    go true e rest = rw (field_ends x xs begun e, field_ends x xs begun' e)
    go false e rest = rw (field_goes_on x xs begun e, field_goes_on x xs begun' e) rest

-- a cut gives one part at least
some_part : (t : List ℕ) → slice_split is_comma t ≡ [] → ⊥
some_part t e = omega (arith, length-slice_split is_comma t, ap length e)

-- the fields are the parts, with the bytes already read before the first
split_from : (t begun part : List ℕ) (parts : List (List ℕ)) → slice_split is_comma t ≡ part ∷ parts → fields_from t begun ≡ reversed begun part ∷ parts
unfolding fields_from reversed
split_from [] begun part parts e = cc
split_from (x ∷ xs) begun part parts e = go (eqb x comma) refl (slice_split is_comma xs) refl (split_from xs []) (split_from xs (x ∷ begun))
  where
    go : (b : Bool) → eqb x comma ≡ b → (some : List (List ℕ)) → slice_split is_comma xs ≡ some
        → ((p : List ℕ) (ps : List (List ℕ)) → slice_split is_comma xs ≡ p ∷ ps → fields_from xs [] ≡ p ∷ ps)
        → ((p : List ℕ) (ps : List (List ℕ)) → slice_split is_comma xs ≡ p ∷ ps → fields_from xs (x ∷ begun) ≡ reversed begun (x ∷ p) ∷ ps)
        → fields_from (x ∷ xs) begun ≡ reversed begun part ∷ parts
    go b h [] s ends on = absurd (some_part xs s)
    go true h (p ∷ ps) s ends on =
        let cut = slice_split-cons_yes is_comma x xs h in
        let rest = ends p ps s in
        field_ends x xs begun h ∙ cc
    go false h (p ∷ ps) s ends on =
        let cut = rw s at (slice_split-cons_no is_comma x xs h) in
        let rest = on p ps s in
        field_goes_on x xs begun h ∙ cc

fields_split : (t : List ℕ) → slice_split is_comma t ≡ fields t
unfolding fields reversed
fields_split t = go (slice_split is_comma t) refl
  where
    go : (some : List (List ℕ)) → slice_split is_comma t ≡ some → slice_split is_comma t ≡ fields t
    go [] s = absurd (some_part t s)
    go (p ∷ ps) s = s ∙ sym (split_from t [] p ps s)

-- what four calls of `split` give, where these fields are left
pub record Others (fs : List (List ℕ)) (a b c d : Option (Bor (List ℕ))) : Type 0 where
  pub none : a ≡ None → length fs ≡ 0
  pub one : (x : Bor (List ℕ)) → a ≡ Some x → b ≡ None → length fs ≡ 1
  pub two : (x y : Bor (List ℕ)) → a ≡ Some x → b ≡ Some y → c ≡ None → length fs ≡ 2
  pub three : (x y z : Bor (List ℕ)) → a ≡ Some x → b ≡ Some y → c ≡ Some z → d ≡ None → fs ≡ x.now ∷ y.now ∷ z.now ∷ []
  pub more : (x y z w : Bor (List ℕ)) → a ≡ Some x → b ≡ Some y → c ≡ Some z → d ≡ Some w → 4 ≤ length fs

-- `split` gives the fields, one after the other
module _ {F : Type 0} (g : Mut F (Bor ℕ × Unit {0}) Bool) where
  abbrev Gives : Split ℕ F → List (List ℕ) → Type 0
  Gives s fs = YieldsList (split_steps g) (λ x. x.now) s fs

  -- a field is given, and the others are left; or none was left
  pub record Given (x : List ℕ) (u : Split ℕ F) (fs : List (List ℕ)) : Type 0 where
    pub others : List (List ℕ)
    pub are : fs ≡ x ∷ others
    pub left : Gives u others

  pub given : {s u : Split ℕ F} {r : Option (Bor (List ℕ))} {x : Bor (List ℕ)} (fs : List (List ℕ)) → Gives s fs → split_steps g s r u → r ≡ Some x
      → Given x.now u fs
  given {s} {u} {r} {x} [] y step e = absurd (y.runs x u (subst (λ o. split_steps g s o u) e step))
  given {s} {u} {r} {x} (f ∷ fs) y step e =
      let h = (y.runs).1 x u (subst (λ o. split_steps g s o u) e step) in
      record { others = fs; are = rw h.0; left = record { runs = h.1 } }

  pub no_more : {s : Split ℕ F} (u : Split ℕ F) {r : Option (Bor (List ℕ))} (fs : List (List ℕ)) → Gives s fs → split_steps g s r u → r ≡ None → fs ≡ []
  no_more u [] y step e = refl
  no_more {s} u {r} (f ∷ fs) y step e = absurd ((y.runs).0 u (subst (λ o. split_steps g s o u) e step))

  -- the first field's name looked up
  pub record Named (t : List ℕ) (u : Split ℕ F) (q : Option Operation) : Type 0 where
    pub named : look_up names (field t 1) ≡ q
    pub others : List (List ℕ)
    pub are : fields t ≡ field t 1 ∷ others
    pub left : Gives u others

  pub first_named : (s : Split ℕ F) {u : Split ℕ F} {f : F} (t : List ℕ) (r : Option (Bor (List ℕ))) (q : Option Operation) → split_steps g s r u
      → split_rest s ≡ t → split_done s ≡ false → split_callee s ≡ f → ((x : ℕ) (b : Bool) (q : F) → CalledAt g f x b q → (q ≡ f) × (b ≡ eqb x comma))
      → MatchOption r (q ≡ None) (λ x. q ≡ look_up names x.now) → Named t u q
  first_named s {u} t r q step rest done callee tests m = go r step m
    where
      cut : Gives s (fields t)
      cut = subst (Gives s) (fields_split t) (YieldsList-from_slice_split g is_comma t rest done callee tests)

      go : (r : Option (Bor (List ℕ))) → split_steps g s r u → MatchOption r (q ≡ None) (λ x. q ≡ look_up names x.now) → Named t u q
      go None step m = absurd (some_part t (fields_split t ∙ no_more u (fields t) cut step refl))
      go (Some x) step m =
          let h = given {x = x} (fields t) cut step refl in
          let e : field t 1 ≡ x.now = ap (λ fs. get_or fs 0 []) h.are in
          record { named = ap (look_up names) e ∙ sym m; others = h.others; are = h.are ∙ ap (λ y. y ∷ h.others) (sym e); left = h.left }

  -- four calls after it
  pub other_fields : (s t u v w : Split ℕ F) (fs : List (List ℕ)) {a b c d : Option (Bor (List ℕ))} → Gives s fs
      → split_steps g s a t → split_steps g t b u → split_steps g u c v → split_steps g v d w → Others fs a b c d
  other_fields s t u v w fs l i j k m =
      record {
        none = λ e. ap length (no_more t fs l i e);
        one = λ x e f.
            let p = given fs l i e in
            rw (p.are, no_more u p.others p.left j f);
        two = λ x y e f h.
            let p = given fs l i e in
            let q = given p.others p.left j f in
            rw (p.are, q.are, no_more v q.others q.left k h);
        three = λ x y z e f h n.
            let p = given fs l i e in
            let q = given p.others p.left j f in
            let r = given q.others q.left k h in
            rw (p.are, q.are, r.are, no_more w r.others r.left m n);
        more = λ x y z last e f h n.
            let p = given fs l i e in
            let q = given p.others p.left j f in
            let r = given q.others q.left k h in
            let o = given r.others r.left m n in
            rw (p.are, q.are, r.are, o.are) (omega arith);
      }
