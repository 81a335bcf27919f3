-- One row up the way: the rows that a line of the table adds make the trap of s from that of its child c.
-- Assumes nothing.
use mathlib.Core.Path.{◌≡◌, refl, sym, ap}
use mathlib.Core.Bool.{Bool, not, ◌&&◌, ◌||◌, So, false≢true}
use mathlib.Core.List.{List}
use Prim.Native.Nat.{ℕ, ◌+◌}
use native.Mathlib.Nat.{add-zero}
use lib.Dec.{ltb}
use lib.ListN.{length}
use Rattle.rows.specs.declared.Kind.{Kind}
use Rattle.rows.specs.Rows.{Row, row_at, fields_of}
use Rattle.rows.specs.declared.Kind.TheVariants.{False, True, Condition, Not, And, Or, StrongNext, WeakNext, Until, Release, Finally, Globally, WeakUntil, Unknown}
use Rattle.signals.specs.Signals.{Signal, negation, both, either}
use Rattle.signals.specs.Truth.{Reading, row_meaning}
use Rattle.signal_laws.proofs.Bools.{all}
use Rattle.rules.specs.TrapRows.{Side, added, trap_of}
use Rattle.rules.specs.TrapRows.Side.{Left, Right}
use Rattle.trap_laws.proofs.KindTraps.{Trap, over, Means, Form, trap_by, rises, up}
use Rattle.trap_laws.proofs.KindTraps.Form.{Itself, Joined, Negated}
use Rattle.trap_laws.proofs.Child.{Fits, adds}

-- the rows of a list stand from row z on
abbrev pub Stand : ℕ → Reading → (ℕ → Signal) → ℕ → List Row → Type 0
Stand n reads v z rows = (j : ℕ) → So (ltb j (length rows)) → v (z + j) ≡ row_meaning n v (reads (z + j)) (row_at rows j)

module _ (n : ℕ) (reads : Reading) (v : ℕ → Signal) (d s' : Signal) (s c o t z : ℕ) (h : Trap n (v t) (v c) d) where
  -- the last row added is the trap of s, if it is what the form makes of a row of kind j over A and B
  abbrev Line : Kind → Side → Form → Kind → (Bool → Bool → Bool → Bool) → (Bool → Bool → Bool → Bool) → Type 0
  Line k side form j A B =
      Means n k side (v o) (v c) (v s) → Means n k side (v o) d s' →
      v (trap_of (added k side s c o t z) s z)
      ≡ (λ i. trap_by form (v s i) (over n j (λ i. A (v o i) (v c i) (v t i)) (λ i. B (v o i) (v c i) (v t i)) i)) →
      Trap n (v (trap_of (added k side s c o t z) s z)) (v s) s'

  line :
      (k : Kind) (side : Side) (form : Form) (j : Kind) (A B : Bool → Bool → Bool → Bool) → So (all 11 (rises k side form j A B)) →
      Line k side form j A B
  line k side form j A B test e e' r = rw r (up k side form j A B test n (v o) (v t) (v c) d (v s) s' _ h e e' refl)

  -- a line for both sides
  lines :
      (k : Kind) (form : Form) (j : Kind) (A B : Bool → Bool → Bool → Bool) → So (all 11 (rises k Left form j A B)) →
      (Fits (fields_of k) Right → So (all 11 (rises k Right form j A B))) → (side : Side) → Fits (fields_of k) side → Line k side form j A B
  lines k form j A B test test' Left x = line k Left form j A B test
  lines k form j A B test test' Right x = line k Right form j A B (test' x)

  first_added : v z ≡ v (z + 0)
  first_added = ap v (sym (add-zero z))

  -- the last row that s adds is the trap of s
  pub grow :
      (k : Kind) (side : Side) → So (adds k) → Fits (fields_of k) side → Means n k side (v o) (v c) (v s) → Means n k side (v o) d s' →
      Stand n reads v z (added k side s c o t z) → Trap n (v (trap_of (added k side s c o t z) s z)) (v s) s'
  unfolding both negation either
  grow And side _ x e e' m = lines And Itself And (λ o c t. t) (λ o c t. o) refl (λ _. refl) side x e e' (simp m)
  grow Or side _ x e e' m = lines Or Itself And (λ o c t. t) (λ o c t. not o) refl (λ _. refl) side x e e' (simp (m, first_added))
  grow StrongNext side _ x e e' m = lines StrongNext Itself StrongNext (λ o c t. t) (λ o c t. t) refl (λ x. absurd x) side x e e' (simp m)
  grow WeakNext side _ x e e' m = lines WeakNext Itself StrongNext (λ o c t. t) (λ o c t. t) refl (λ x. absurd x) side x e e' (simp m)
  grow Until Left _ x e e' m = line Until Left Joined Until (λ o c t. not o) (λ o c t. t && not o) refl e e' (simp (m, first_added))
  grow Until Right _ x e e' m = line Until Right Negated Release (λ o c t. not o) (λ o c t. not c || t) refl e e' (simp (m, first_added))
  grow Release Left _ x e e' m = line Release Left Negated Until (λ o c t. not c || t) (λ o c t. not o) refl e e' (simp (m, first_added))
  grow Release Right _ x e e' m = line Release Right Joined Until (λ o c t. not o) (λ o c t. t) refl e e' (simp (m, first_added))
  grow Finally side _ x e e' m =
      lines Finally Negated Globally (λ o c t. not c || t) (λ o c t. t) refl (λ x. absurd x) side x e e' (simp (m, first_added))
  grow Globally side _ x e e' m =
      lines Globally Joined Finally (λ o c t. t) (λ o c t. t) refl (λ x. absurd x) side x e e' (simp (m, first_added))
  grow WeakUntil Left _ x e e' m = line WeakUntil Left Joined Until (λ o c t. not o) (λ o c t. not o && t) refl e e' (simp (m, first_added))
  grow WeakUntil Right _ x e e' m =
      line WeakUntil Right Negated Until (λ o c t. not c || t) (λ o c t. not o && (not c || t)) refl e e' (simp (m, first_added))
  grow Not side t x e e' m = absurd (false≢true t)
  grow False side _ x e e' m = absurd x
  grow True side _ x e e' m = absurd x
  grow Condition side _ x e e' m = absurd x
  grow Unknown side _ x e e' m = absurd x
