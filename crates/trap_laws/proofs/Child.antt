-- The child on the way: which field of a row names it, and what that says of the row and of the other child.
-- Assumes nothing.
use mathlib.Core.Path.{◌≡◌, refl, sym, ap}
use mathlib.Core.Bool.{Bool, true, false, cond, ◌||◌, So, or-true}
use mathlib.Core.List.{[], ◌∷◌}
use Prim.Native.Nat.{ℕ, ◌<◌}
use native.Mathlib.Omega.{arith}
use native.Mathlib.Decide.{ℕ_discrete}
use borrow.Author.Tests.{eqb-true, eqb-false, eq-eqb, ne_eqb}
use lib.Dec.{eqb, ltb}
use lib.ListN.{length}
use Rattle.rows.specs.declared.Fields.{Fields}
use Rattle.rows.specs.declared.Fields.TheVariants as fields
use Rattle.rows.specs.declared.Kind.{Kind}
use Rattle.rows.specs.Rows.{Row, kind_number, kind, first, second, fields_of, named_by}
use Rattle.rows.specs.Checks.{All, times, is_not}
use Rattle.signals.specs.Signals.{Signal}
use Rattle.signal_laws.proofs.Bools.{◌⇒◌, apply}
use Rattle.signal_laws.proofs.ByKind.{Needs, by_number}
use Rattle.rules.specs.TrapRows.{Side, side_of, added}
use Rattle.rules.specs.TrapRows.Side.{Left, Right}
use Rattle.trap_laws.proofs.KindTraps.{beside}

-- a row with fields a, b names c: as its only row, as the first of two, or as the second
pub data Child (a b c : ℕ) : Fields → Bool → Type 0 where
  only : a ≡ c → Child a b c fields.OneRow true
  one_of_two : a ≡ c → Child a b c fields.TwoRows true
  two_of_two : b ≡ c → Child a b c fields.TwoRows false

pub child : (f : Fields) (a b c : ℕ) (left : Bool) → eqb a c ≡ left → 0 < times c (named_by f a b) → Child a b c f left
child fields.Neither a b c left e h = absurd (omega arith)
child fields.Condition a b c left e h = absurd (omega arith)
child fields.Unknown a b c left e h = absurd (omega arith)
child fields.OneRow a b c true e h = only (eqb-true a c e)
child fields.OneRow a b c false e h = absurd (let q = rw (ne_eqb c a (λ q. eqb-false a c e (sym q))) at h in omega arith)
child fields.TwoRows a b c true e h = one_of_two (eqb-true a c e)
child fields.TwoRows a b c false e h = two_of_two (go (ℕ_discrete b c))
  where
    go : Dec (b ≡ c) → b ≡ c
    go (yes q) = q
    go (no q) = absurd (let r = rw (ne_eqb c a (λ p. eqb-false a c e (sym p)), ne_eqb c b (λ p. q (sym p))) at h in omega arith)

-- the sides on which a row of such fields has a child
abbrev pub Fits : Fields → Side → Type 0
Fits fields.Neither side = ⊥
Fits fields.Condition side = ⊥
Fits fields.OneRow Left = Unit {0}
Fits fields.OneRow Right = ⊥
Fits fields.TwoRows side = Unit {0}
Fits fields.Unknown side = ⊥

abbrev names : Fields → Bool
names f = ltb 0 (length (named_by f 0 0))

module _ {a b c : ℕ} where
  pub fits : {f : Fields} {left : Bool} → Child a b c f left → Fits f (side_of left) × So (names f)
  fits (only e) = (tt, refl)
  fits (one_of_two e) = (tt, refl)
  fits (two_of_two e) = (tt, refl)

  -- the child and the other child are lower
  pub lower_children :
      {f : Fields} {left : Bool} (s : ℕ) → Child a b c f left → All (λ k. k < s) (named_by f a b) →
      Needs f (Unit {0}) (c < s) (cond left b a < s)
  lower_children s (only e) h = rw e at h.0
  lower_children s (one_of_two e) h = (rw e at h.0, h.1.0)
  lower_children s (two_of_two e) h = (rw e at h.1.0, h.0)

  not_both : times c (a ∷ b ∷ []) ≡ 1 → a ≡ c → b ≡ c → ⊥
  not_both once p q = let r = rw (eq-eqb c a (sym p), eq-eqb c b (sym q)) at once in omega arith

  -- the two fields as the child and the other child, where u and v agree on the rows named but the child
  pub seen :
      {f : Fields} {left : Bool} (O : Type 0) (u v : ℕ → Signal) → Child a b c f left → times c (named_by f a b) ≡ 1 →
      ((k : ℕ) → 0 < times k (named_by f a b) → (k ≡ c → ⊥) → u k ≡ v k) →
      Needs f O (u a ≡ beside (side_of left) (u c) (v (cond left b a))) (u b ≡ beside (side_of left) (v (cond left b a)) (u c))
  seen O u v (only e) once agree = ap u e
  seen O u v (one_of_two e) once agree = (ap u e, agree b (rw (eq-eqb b b refl) (omega arith)) (λ q. not_both once e q))
  seen O u v (two_of_two e) once agree = (agree a (rw (eq-eqb a a refl) (omega arith)) (λ q. not_both once q e), ap u e)

-- the kinds that have a line in the table
abbrev pub adds : Kind → Bool
adds k = ltb 0 (length (added k Left 0 0 0 0 0))

-- a row that names a row and is not "not" has one
pub adds_rows :
    (r : Row) (c : ℕ) (left : Bool) → Child (first r) (second r) c (fields_of (kind r)) left → is_not r ≡ false → So (adds (kind r))
adds_rows r c left h e =
    apply _ _
    (rw e at (by_number (λ n k. eqb n 3 || (names (fields_of k) ⇒ adds k)) refl (λ n. or-true (eqb n 3)) (kind_number r)))
    (fits h).1
