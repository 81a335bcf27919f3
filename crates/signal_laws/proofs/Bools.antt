-- A law of Bools, proved by computing it at all of them.
-- Assumes nothing.
use mathlib.Core.Path.{◌≡◌, refl, sym}
use mathlib.Core.Bool.{Bool, true, false, ◌&&◌, beq, So, false≢true, and-eq-true_iff}
use Prim.Native.Nat.{ℕ, zero, suc}

infixr 25 ◌⇒◌
abbrev pub ◌⇒◌ : Bool → Bool → Bool
true ⇒ b = b
false ⇒ b = true

infix 28 ◌==◌
abbrev pub ◌==◌ : Bool → Bool → Bool
a == b = beq a b

pub equal : (a b : Bool) → So (a == b) → a ≡ b
equal true true t = refl
equal true false t = sym t
equal false true t = t
equal false false t = refl

pub apply : (a b : Bool) → So (a ⇒ b) → So a → So b
apply true b f t = f
apply false b f t = absurd (false≢true t)

pub left : (a b : Bool) → So (a && b) → So a
left a b t = ((and-eq-true_iff a b).0 t).0

pub right : (a b : Bool) → So (a && b) → So b
right a b t = ((and-eq-true_iff a b).0 t).1

-- a test of m Bools, whether it passes at all of them, and what that says
abbrev pub Test : ℕ → Type 0
Test zero = Bool
Test (suc m) = Bool → Test m

abbrev pub all : (m : ℕ) → Test m → Bool
all zero b = b
all (suc m) f = all m (f true) && all m (f false)

abbrev pub Passes : (m : ℕ) → Test m → Type 0
Passes zero b = So b
Passes (suc m) f = (b : Bool) → Passes m (f b)

-- a test that passes when it is computed at all Bools passes
pub at : (m : ℕ) (f : Test m) → So (all m f) → Passes m f
at zero f t = t
at (suc m) f t = elim [ true ↦ at m (f true) (left _ _ t) | false ↦ at m (f false) (right (all m (f true)) _ t) ]

pub same : (a b : Bool) → a ≡ b → So (a == b)
same a b e = rw e (at 1 (λ x. x == x) refl b)
