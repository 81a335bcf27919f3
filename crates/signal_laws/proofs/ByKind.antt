-- Laws over the kinds: what a law needs of the rows that a kind names, and a law of Bools computed at every kind.
-- Assumes nothing.
use mathlib.Core.Path.{refl}
use mathlib.Core.Bool.{Bool, true, ◌&&◌, So, and-eq-true_iff}
use mathlib.Core.List.{List, [], ◌∷◌}
use Prim.Native.Nat.{ℕ, zero, suc}
use lib.ListN.{get_or}
use Rattle.rows.specs.declared.Fields.{Fields}
use Rattle.rows.specs.declared.Fields.TheVariants as fields
use Rattle.rows.specs.declared.Kind.{Kind}
use Rattle.rows.specs.Rows.{kinds, kind_of, named_by}
use Rattle.rows.specs.declared.Kind.TheVariants.{False, True, Condition, Not, And, Or, StrongNext, WeakNext, Until, Release, Finally, Globally, WeakUntil, Unknown}
use Rattle.rows.specs.Checks.{All}
use Rattle.signal_laws.proofs.Bools.{left, right}

-- O of what a condition reads, X of the row that the first field names, Y of the row that the second names: where they do
abbrev pub Needs : Fields → Type 0 → Type 0 → Type 0 → Type 0
Needs fields.Neither O X Y = Unit {0}
Needs fields.Condition O X Y = O
Needs fields.OneRow O X Y = X
Needs fields.TwoRows O X Y = X × Y
Needs fields.Unknown O X Y = Unit {0}

-- the same as a test
abbrev pub needs : Fields → Bool → Bool → Bool → Bool
needs fields.Neither o x y = true
needs fields.Condition o x y = o
needs fields.OneRow o x y = x
needs fields.TwoRows o x y = x && y
needs fields.Unknown o x y = true

pub needs_of : (f : Fields) (o x y : Bool) → Needs f (So o) (So x) (So y) → So (needs f o x y)
needs_of fields.Neither o x y h = refl
needs_of fields.Condition o x y h = h
needs_of fields.OneRow o x y h = h
needs_of fields.TwoRows o x y h = (and-eq-true_iff x y).1 h
needs_of fields.Unknown o x y h = refl

-- what holds of the rows named gives what is needed
pub needs_named :
    (f : Fields) (P : ℕ → Type 0) (a b : ℕ) {O X Y : Type 0} → O → (P a → X) → (P b → Y) → All P (named_by f a b) → Needs f O X Y
needs_named fields.Neither P a b o x y h = tt
needs_named fields.Condition P a b o x y h = o
needs_named fields.OneRow P a b o x y h = x h.0
needs_named fields.TwoRows P a b o x y h = (x h.0, y h.1.0)
needs_named fields.Unknown P a b o x y h = tt

-- a test of a kind and its number, at the kinds of a list that have the numbers from 0 on
abbrev pub in_order : (ℕ → Kind → Bool) → List Kind → Bool
in_order f [] = true
in_order f (k ∷ ks) = f 0 k && in_order (λ n. f (suc n)) ks

-- a test that passes at the kinds 0 to 12 and at what no number is passes at every kind number
pub by_number : (f : ℕ → Kind → Bool) → So (in_order f kinds) → ((n : ℕ) → So (f n Unknown)) → (n : ℕ) → So (f n (kind_of n))
by_number f t u n = go f kinds n t u
  where
    go : (f : ℕ → Kind → Bool) (l : List Kind) (n : ℕ) → So (in_order f l) → ((n : ℕ) → So (f n Unknown)) → So (f n (get_or l n Unknown))
    go f [] n t u = u n
    go f (k ∷ ks) zero t u = left (f 0 k) _ t
    go f (k ∷ ks) (suc n) t u = go (λ n. f (suc n)) ks n (right (f 0 k) _ t) (λ n. u (suc n))

-- what holds at every kind number holds at every kind
numbered : (f : Kind → Bool) → ((n : ℕ) → So (f (kind_of n))) → (k : Kind) → So (f k)
numbered f t False = t 0
numbered f t True = t 1
numbered f t Condition = t 2
numbered f t Not = t 3
numbered f t And = t 4
numbered f t Or = t 5
numbered f t StrongNext = t 6
numbered f t WeakNext = t 7
numbered f t Until = t 8
numbered f t Release = t 9
numbered f t Finally = t 10
numbered f t Globally = t 11
numbered f t WeakUntil = t 12
numbered f t Unknown = t 13

-- a test that passes when it is computed at all kinds passes
pub by_kind : (f : Kind → Bool) → So (in_order (λ _. f) kinds) → So (f Unknown) → (k : Kind) → So (f k)
by_kind f t u = numbered f (by_number (λ _. f) t (λ _. u))
