-- A store in a table of such a width: the cell stored, and that every other cell stays.
-- Assumes nothing.
use mathlib.Core.Path.{◌≡◌, refl, sym, ◌∙◌, ap, subst}
use mathlib.Core.Bool.{Bool, false}
use mathlib.Core.List.{List}
use Prim.Native.Nat.{ℕ, zero, suc, ◌+◌, ◌*◌, ◌%◌, ◌<◌}
use native.Mathlib.Omega.{arith}
use native.Mathlib.Nat.{mod-eq_of_lt, mul-add-mod_self_left, eq_of_mul-eq-mul_left}
use lib.ListN.{length, set, get_or, replicate}
use lib.Seq.{get_or-set_same, get_or-set_other}
use native.Mathlib.Decide.{ℕ_discrete}
use Rattle.bench.specs.Tables.{cell_of, CellSet}

module _ (width : ℕ) where
  -- two cells at one place are of one column and one row
  one_column : (r c s i : ℕ) → c < width → i < width → width * r + c ≡ width * s + i → c ≡ i
  one_column r c s i hc hi e =
      sym (mod-eq_of_lt hc)
      ∙ sym (mul-add-mod_self_left width r c)
      ∙ ap (λ n. n % width) e
      ∙ mul-add-mod_self_left width s i
      ∙ mod-eq_of_lt hi

  one_row : (r c s i : ℕ) → c < width → i < width → width * r + c ≡ width * s + i → r ≡ s
  one_row r c s i hc hi e =
      let same = one_column r c s i hc hi e in
      eq_of_mul-eq-mul_left width (omega arith) r s (omega arith)

  pub cell_set :
      (table : List Bool) (r c : ℕ) (v : Bool) → c < width → width * r + c < length table → CellSet width r c v table (set table (width * r + c) v)
  cell_set table r c v hc l =
      record {
        here = get_or-set_same table (width * r + c) v false l;
        others =
            λ s i hi apart.
            get_or-set_other table (width * r + c) (width * s + i) v false
            (λ e. apart (one_row s i r c hi hc e) (one_column s i r c hi hc e));
      }

-- a table with no cell set
pub none_set : (width n r c : ℕ) → cell_of width (replicate n false) r c ≡ false
none_set width n r c = blank n (width * r + c)
  where
    blank : (m i : ℕ) → get_or (replicate m false) i false ≡ false
    blank zero i = refl
    blank (suc m) zero = refl
    blank (suc m) (suc i) = blank m i

-- one row more of a column, and one column more of a row
module _ {width r c : ℕ} {v : Bool} {before after : List Bool} (stored : CellSet width r c v before after) (f : ℕ → Bool) where
  pub row_more :
      c < width → ((k : ℕ) → k < r → cell_of width before k c ≡ f k) → v ≡ f r → (k : ℕ) → k < r + 1 → cell_of width after k c ≡ f k
  row_more hc right is k l = go (ℕ_discrete k r)
    where
      go : Dec (k ≡ r) → cell_of width after k c ≡ f k
      go (yes e) = subst (λ (n : ℕ). cell_of width after n c ≡ f n) (sym e) (stored.here ∙ is)
      go (no e) = stored.others k c hc (λ q _. e q) ∙ right k (omega arith)

  pub column_more :
      c < width → ((k : ℕ) → k < c → cell_of width before r k ≡ f k) → v ≡ f c → (k : ℕ) → k < c + 1 → cell_of width after r k ≡ f k
  column_more hc right is k l = go (ℕ_discrete k c)
    where
      go : Dec (k ≡ c) → cell_of width after r k ≡ f k
      go (yes e) = subst (λ (n : ℕ). cell_of width after r n ≡ f n) (sym e) (stored.here ∙ is)
      go (no e) = stored.others r k (omega arith) (λ _ q. e q) ∙ right k (omega arith)
