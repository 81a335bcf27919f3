-- Pairs of numbers one after another in a list: exactly those that have a property, each after the lesser ones; and two such lists joined.
-- Assumes nothing.
use mathlib.Core.Path.{◌≡◌, refl, sym, ◌∙◌}
use mathlib.Core.Logic.{◌⊎◌, ⊎_elim}
use mathlib.Core.List.{List, [], ◌∷◌, ◌++◌}
use Prim.Native.Nat.{ℕ, ◌+◌, ◌*◌, ◌-◌, ◌<◌}
use native.Mathlib.Omega.{arith}
use native.Mathlib.Decide.{dec_lt}
use lib.ListN.{length, get_or, length-append, get_or-append}
use lib.Seq.{get_or-append-add}

-- the two numbers of the k-th pair
abbrev pub former : List ℕ → ℕ → ℕ
former l k = get_or l (2 * k) 0

abbrev pub latter : List ℕ → ℕ → ℕ
latter l k = get_or l (2 * k + 1) 0

-- by the former, then by the latter
abbrev pub Before : ℕ → ℕ → ℕ → ℕ → Type 0
Before a b c d = (a < c) ⊎ ((a ≡ c) × (b < d))

-- the list is n pairs: each has the property, each that has it is there, and they are in order
pub record Exact (P : ℕ → ℕ → Type 0) (l : List ℕ) (n : ℕ) : Type 0 where
  pub even : length l ≡ 2 * n
  pub each : (k : ℕ) → k < n → P (former l k) (latter l k)
  pub none_missing : (a b : ℕ) → P a b → (k : ℕ) × ((k < n) × ((former l k ≡ a) × (latter l k ≡ b)))
  pub ordered : (k m : ℕ) → k < m → m < n → Before (former l k) (latter l k) (former l m) (latter l m)

module _ {P : ℕ → ℕ → Type 0} {l : List ℕ} {n : ℕ} (exact : Exact P l n) where
  -- so each is there once
  pub once : (k m : ℕ) → k < n → m < n → former l k ≡ former l m → latter l k ≡ latter l m → k ≡ m
  once k m k_in m_in e d = go (dec_lt k m) (dec_lt m k)
    where
      go : Dec (k < m) → Dec (m < k) → k ≡ m
      go (yes h) _ = absurd (⊎_elim (λ x. omega arith) (λ x. let y = x.1 in omega arith) (exact.ordered k m h m_in))
      go (no h) (yes g) = absurd (⊎_elim (λ x. omega arith) (λ x. let y = x.1 in omega arith) (exact.ordered m k g k_in))
      go (no h) (no g) = omega arith

-- no pair, and one pair
pub exact_none : (P : ℕ → ℕ → Type 0) → ((a b : ℕ) → P a b → ⊥) → Exact P [] 0
exact_none P none =
    record {
      even = refl;
      each = λ k h. absurd (omega arith);
      none_missing = λ a b h. absurd (none a b h);
      ordered = λ k m h g. absurd (omega arith);
    }

pub exact_one : (P : ℕ → ℕ → Type 0) (a b : ℕ) → P a b → ((c d : ℕ) → P c d → (c ≡ a) × (d ≡ b)) → Exact P (a ∷ b ∷ []) 1
exact_one P a b has only =
    record {
      even = refl;
      each = λ k h. let e : k ≡ 0 = omega arith in rw e has;
      none_missing = λ c d h. (0, (omega arith, (sym (only c d h).0, sym (only c d h).1)));
      ordered = λ k m h g. absurd (omega arith);
    }

-- two lists joined, those of the first before those of the second
module _ {P Q : ℕ → ℕ → Type 0} {l r : List ℕ} {n m : ℕ} (ahead : Exact P l n) (after : Exact Q r m) where
  front : (i : ℕ) → i < 2 * n → get_or (l ++ r) i 0 ≡ get_or l i 0
  front i h = get_or-append l r 0 i (let e = ahead.even in omega arith)

  back : (i j : ℕ) → i ≡ 2 * n + j → get_or (l ++ r) i 0 ≡ get_or r j 0
  back i j e = rw (e, ← ahead.even) (get_or-append-add l r j 0)

  -- what holds of the pairs of both holds of the joined list's
  by_part :
      (T : ℕ → ℕ → Type 0) (k : ℕ) → k < n + m → (k < n → T (former l k) (latter l k)) →
      ((d : ℕ) → d < m → k ≡ n + d → T (former r d) (latter r d)) → T (former (l ++ r) k) (latter (l ++ r) k)
  by_part T k h first second = go (dec_lt k n)
    where
      go : Dec (k < n) → T (former (l ++ r) k) (latter (l ++ r) k)
      go (yes g) = rw (front (2 * k) (omega arith), front (2 * k + 1) (omega arith)) (first g)
      go (no g) =
          rw (back (2 * k) (2 * (k - n)) (omega arith), back (2 * k + 1) (2 * (k - n) + 1) (omega arith))
          (second (k - n) (omega arith) (omega arith))

  pub exact_join :
      (R : ℕ → ℕ → Type 0) → ((a b : ℕ) → P a b → R a b) → ((a b : ℕ) → Q a b → R a b) →
      ((a b : ℕ) → R a b → P a b ⊎ Q a b) → ((a b c d : ℕ) → P a b → Q c d → Before a b c d) → Exact R (l ++ r) (n + m)
  exact_join R from_first from_second split before =
      record {
        even = let e = ahead.even in let d = after.even in omega (arith, length-append l r);
        each = λ k h. by_part R k h (λ g. from_first _ _ (ahead.each k g)) (λ d g _. from_second _ _ (after.each d g));
        none_missing = λ a b h. ⊎_elim (in_first a b) (in_second a b) (split a b h);
        ordered =
            λ k h g i.
            by_part (Before (former (l ++ r) k) (latter (l ++ r) k)) h i (
            λ x.
            by_part (λ a b. Before a b (former l h) (latter l h)) k (omega arith) (λ _. ahead.ordered k h g x)
            (λ d _ e. absurd (omega arith))
            )
            (λ d x e.
            by_part (λ a b. Before a b (former r d) (latter r d)) k (omega arith)
            (λ y. before _ _ _ _ (ahead.each k y) (after.each d x)) (λ c y f. after.ordered c d (omega arith) x));
      }
    where
      in_first : (a b : ℕ) → P a b → (k : ℕ) × ((k < n + m) × ((former (l ++ r) k ≡ a) × (latter (l ++ r) k ≡ b)))
      in_first a b h =
          let f = ahead.none_missing a b h in
          let g = f.1.0 in
          (f.0, (omega arith, (front _ (omega arith) ∙ f.1.1.0, front _ (omega arith) ∙ f.1.1.1)))

      in_second : (a b : ℕ) → Q a b → (k : ℕ) × ((k < n + m) × ((former (l ++ r) k ≡ a) × (latter (l ++ r) k ≡ b)))
      in_second a b h =
          let f = after.none_missing a b h in
          let g = f.1.0 in
          (n + f.0, (omega arith, (back _ _ (omega arith) ∙ f.1.1.0, back _ _ (omega arith) ∙ f.1.1.1)))
