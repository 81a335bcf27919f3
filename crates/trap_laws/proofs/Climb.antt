-- The trap table of an occurrence of a requirement: its last row holds where the requirement does and, the occurrence flipped, does not.
-- Assumes nothing.
use mathlib.Core.Path.{◌≡◌, refl, sym, ◌∙◌, ap}
use mathlib.Core.Logic.{◌⊎◌, inl, inr, ⊎_elim, ⊎_map}
use mathlib.Core.Bool.{Bool, true, false, So, true≢false}
use mathlib.Core.List.{List, [], ◌∷◌, ◌++◌, append_assoc, append-nil}
use Prim.Native.Nat.{ℕ, suc, ◌+◌, ◌-◌, ◌<◌}
use native.Mathlib.Omega.{arith}
use native.Mathlib.Decide.{ℕ_discrete, dec_lt}
use borrow.Author.Tests.{eqb-true, ltb-true}
use lib.ListN.{length, length-append}
use lib.Seq.{get_or-append-add}
use Rattle.rows.specs.Rows.{Row, kind_number, kind, first, second, row_at, fields_of, named}
use Rattle.rows.specs.Checks.{times, namings, is_condition, is_not, IsRequirement}
use Rattle.signals.specs.Signals.{Signal, negation}
use Rattle.signals.specs.Truth.{Reading, row_meaning, truth_of}
use Rattle.signal_laws.proofs.Model.{Lower, Model, meaning_cong, row_cong, truth_model, model_front, truth_front}
use Rattle.rules.specs.TrapRows.{side_of, added, trap_of, Way, up_to, way, trap_table}
use Rattle.trap_laws.proofs.KindTraps.{Trap, own_trap, two, Means}
use Rattle.trap_laws.proofs.Count.{counted, all_counted, not_yet, named_once_lem}
use Rattle.trap_laws.proofs.Child.{Child, child, fits, seen, adds, adds_rows}
use Rattle.trap_laws.proofs.Grow.{Stand, grow}
use Rattle.trap_laws.proofs.Induction.{start, stands_first, other, free, new, climb_keeps}
use Rattle.trap_laws.proofs.Laid.{Laid, laid_start, new_some, laid_up, laid_lower}

-- reads' is reads but at the occurrence p, which reads false at every step, or true where it stands under "not"
pub record Flipped (rows : List Row) (p : ℕ) (under : Bool) (reads reads' : Reading) : Type 0 where
  pub elsewhere : (r : ℕ) → (r ≡ p → ⊥) → reads' r ≡ reads r
  pub here : reads' p ≡ (λ _. under)
  pub under_not : (s : ℕ) → s < length rows → 0 < times p (named (row_at rows s)) → under ≡ is_not (row_at rows s)
  pub under_none : namings rows p (length rows) ≡ 0 → under ≡ false

-- the rows of a table after its first ones
stand :
    (n : ℕ) (reads : Reading) (front more : List Row) → Lower (front ++ more) →
    Stand n reads (truth_of (front ++ more) reads n) (length front) more
stand n reads front more lower j t =
    rw (get_or-append-add front more j []) at
    (truth_model (front ++ more) reads n lower (length front + j) (omega (arith, ltb-true j (length more) t, length-append front more)))

-- the trap, where it is the last row added, is the last row of the table
trap_last : (rows : List Row) (s z : ℕ) → suc s ≡ z → suc (trap_of rows s z) ≡ z + length rows
trap_last [] s z e = omega arith
trap_last (r ∷ rs) s z e = omega arith

trap_more : (old more : List Row) (s z : ℕ) → 0 < length more → trap_of more s (z + length old) ≡ trap_of (old ++ more) s z
trap_more old [] s z h = absurd (omega arith)
trap_more [] (r ∷ rs) s z h = omega arith
trap_more (x ∷ xs) (r ∷ rs) s z h = omega (arith, length-append xs (r ∷ rs))

module _
    (rows : List Row) (is : IsRequirement rows) (p : ℕ) (p_in : p < length rows) (p_cond : So (is_condition (row_at rows p)))
    (n : ℕ) (reads reads' : Reading) (under : Bool) (flipped : Flipped rows p under reads reads')
  where
    -- the truth of the requirement, and with the occurrence flipped
    abbrev v : ℕ → Signal
    v = truth_of rows reads n

    abbrev w : ℕ → Signal
    w = truth_of rows reads' n

    w_model : Model n reads' rows w
    w_model = truth_model rows reads' n is.lower

    -- the row that is the trap so far is the trap of the row in hand
    abbrev Trapped : Way → Type 0
    Trapped y = Trap n (truth_of (rows ++ y.rows) reads n y.trap) (v y.at) (w y.at)

    -- the way has left the occurrence
    record Risen (s : ℕ) (y : Way) : Type 0 where
      past : p < s
      inner : is_condition (row_at rows y.at) ≡ false
      trapped : Trapped y

    -- what holds when the rows below s are done: of them, only the row in hand and rows that are named already mean something else when flipped
    record Done (s : ℕ) (y : Way) : Type 0 where
      laid : Laid rows y
      fresh : namings rows y.at s ≡ 0
      untouched : (r : ℕ) → r < s → (r ≡ y.at → ⊥) → namings rows r s ≡ 0 → w r ≡ v r
      last : y.trap ≡ trap_of y.rows y.at (length rows)
      state : (y ≡ start p) ⊎ Risen s y

    at_p : {y : Way} → y ≡ start p → y.at ≡ p
    at_p e = ap (λ (x : Way). x.at) e

    w_here : w p ≡ (λ _. under)
    w_here = w_model p p_in ∙ rw (eqb-true (kind_number (row_at rows p)) 2 p_cond) flipped.here

    trapped : {s : ℕ} (y : Way) → (y ≡ start p) ⊎ Risen s y → (y ≡ start p → under ≡ false) → Trapped y
    trapped y (inl e) plain = rw (e, append-nil rows, w_here, plain e) (own_trap n (v p))
    trapped y (inr q) plain = q.trapped

    -- a row that does not name the row in hand
    stay : (s : ℕ) (y : Way) → s < length rows → times y.at (named (row_at rows s)) ≡ 0 → Done s y → Done (suc s) y
    unfolding namings
    stay s y l none done =
        record {
          laid = done.laid;
          fresh = omega (arith, done.fresh);
          untouched = λ r x d e. go r d (ℕ_discrete r s) (λ q. done.untouched r (omega arith) d (omega arith));
          last = done.last;
          state = ⊎_map (λ e. e) (λ q. record { past = omega (arith, q.past); inner = q.inner; trapped = q.trapped }) done.state;
        }
      where
        not_p : (s ≡ y.at → ⊥) → s ≡ p → ⊥
        not_p d q = ⊎_elim (λ e. d (q ∙ sym (at_p e))) (λ h. omega (arith, h.past)) done.state

        steady : (s ≡ y.at → ⊥) → w s ≡ v s
        steady d =
            w_model s l
            ∙ row_cong n w v _ _ (row_at rows s) (flipped.elsewhere s (not_p d))
            (counted _ (named (row_at rows s))
            (λ k m. let o = named_once_lem rows is k s l m in done.untouched k o.0 (λ z. let m' = rw z at m in omega arith) o.1))
            ∙ sym (truth_model rows reads n is.lower s l)

        go : (r : ℕ) → (r ≡ y.at → ⊥) → Dec (r ≡ s) → ((r ≡ s → ⊥) → w r ≡ v r) → w r ≡ v r
        go r d (yes q) below = rw q (steady (λ z. d (q ∙ z)))
        go r d (no q) below = below q

    module _ (s : ℕ) (y : Way) (l : s < length rows) (h : 0 < times y.at (named (row_at rows s))) (done : Done s y) where
      abbrev r : Row
      r = row_at rows s

      abbrev c : ℕ
      c = y.at

      abbrev next : Way
      next = up_to added (length rows) s r y

      next_laid : Laid rows next
      next_laid = laid_up rows is.lower s y l h done.laid

      once : (c < s) × (namings rows c s ≡ 0) × (times c (named r) ≡ 1)
      once = named_once_lem rows is c s l h

      abbrev Raised : Type 0
      Raised = (next.trap ≡ trap_of next.rows s (length rows)) × Trapped next

      -- "not" stands over the occurrence, which then reads true, and adds no row
      over_not : is_not r ≡ true → Raised
      unfolding negation
      over_not e = ⊎_elim at_start (λ q. absurd (true≢false (sym (rw first_is at (is.not_over s l e)) ∙ q.inner))) done.state
        where
          number : kind_number r ≡ 3
          number = eqb-true (kind_number r) 3 e

          first_is : first r ≡ c
          first_is = all_counted (λ k. first r ≡ k) (named r) c (rw number (refl, tt)) h

          at_start : y ≡ start p → Raised
          at_start b =
              let none : new rows s y ≡ [] = rw number in
              let empty : y.rows ≡ [] = ap (λ (x : Way). x.rows) b in
              let all_true : under ≡ true = flipped.under_not s l (rw (at_p b) at h) ∙ e in
              let all_false : w s ≡ (λ _. false) = w_model s l ∙ rw (number, first_is, at_p b, w_here, all_true) in
              (rw (none, empty), rw (none, empty, append-nil rows, all_false) (own_trap n (v s)))

      -- the table so far, the rows that s adds, and the truth of both together
      abbrev front : List Row
      front = rows ++ y.rows

      abbrev more : List Row
      more = new rows s y

      abbrev u : ℕ → Signal
      u = truth_of (front ++ more) reads n

      front_lower : Lower front
      front_lower = laid_lower rows is.lower y done.laid

      all_lower : Lower (front ++ more)
      all_lower = rw (append_assoc rows y.rows more) (laid_lower rows is.lower next next_laid)

      u_front : (k : ℕ) → k < free rows y → u k ≡ truth_of front reads n k
      u_front k m = truth_front n reads front more front_lower all_lower k (omega (arith, length-append rows y.rows))

      u_rows : (k : ℕ) → k < length rows → u k ≡ v k
      u_rows k m = u_front k (omega arith) ∙ truth_front n reads rows y.rows is.lower front_lower k m

      named_here : Child (first r) (second r) c (fields_of (kind r)) (stands_first r c)
      named_here = child (fields_of (kind r)) (first r) (second r) c (stands_first r c) refl h

      means :
          (x : ℕ → Signal) (own : Signal) → x s ≡ row_meaning n x own r → ((k : ℕ) → 0 < times k (named r) → (k ≡ c → ⊥) → x k ≡ u k) →
          Means n (kind r) (side_of (stands_first r c)) (u (other r c)) (x c) (x s)
      means x own e same =
          e ∙ meaning_cong n x (two _ _) own (λ _. false) (kind r) _ _ 0 1 (seen (own ≡ (λ _. false)) x u named_here once.2 same)

      -- any other row adds rows
      by_rows : is_not r ≡ false → Raised
      by_rows e = (
        trap_more y.rows more s (length rows) (new_some rows is.lower s y l h done.laid some),
        rw (u_rows s l, append_assoc rows y.rows more) at grown,
      )
        where
          some : So (adds (kind r))
          some = adds_rows r c (stands_first r c) named_here e

          child_trap : Trap n (u y.trap) (u c) (w c)
          child_trap =
              rw (u_front y.trap done.laid.trap_in, u_rows c done.laid.at_in)
              (trapped y done.state (λ b. flipped.under_not s l (rw (at_p b) at h) ∙ e))

          u_model : Model n reads rows u
          u_model = model_front n reads rows y.rows u (model_front n reads front more u (truth_model (front ++ more) reads n all_lower))

          untouched : (k : ℕ) → 0 < times k (named r) → (k ≡ c → ⊥) → w k ≡ u k
          untouched k m d =
              let o = named_once_lem rows is k s l m in
              done.untouched k o.0 d o.1 ∙ sym (u_rows k (omega arith))

          grown : Trap n (u (trap_of more s (free rows y))) (u s) (w s)
          grown =
              grow n reads u (w c) (w s) s c (other r c) y.trap (free rows y) child_trap (kind r) (side_of (stands_first r c)) some
              (fits named_here).0 (means u (reads s) (u_model s l) (λ k m d. refl)) (means w (reads' s) (w_model s l) untouched)
              (rw (length-append rows y.rows) at (stand n reads front more all_lower))

      raised : (b : Bool) → is_not r ≡ b → Raised
      raised true e = over_not e
      raised false e = by_rows e

      -- a row that names the row in hand
      rise : Done (suc s) next
      unfolding namings
      rise =
          record {
            laid = next_laid;
            fresh = not_yet rows is.lower s (suc s) l (omega arith);
            untouched = λ k x d e. done.untouched k (omega arith) (λ q. let e' = rw q at e in omega arith) (omega arith);
            last = (raised (is_not r) refl).0;
            state = inr (record { past = past; inner = inner (is_condition r) refl; trapped = (raised (is_not r) refl).1 });
          }
        where
          past : p < suc s
          past = ⊎_elim (λ b. omega (arith, at_p b, once.0)) (λ q. omega (arith, q.past)) done.state

          inner : (b : Bool) → is_condition r ≡ b → b ≡ false
          inner false e = refl
          inner true e = absurd (let q = rw (eqb-true (kind_number r) 2 e) at h in omega arith)

    -- the theorem: the last row of the trap table is the trap of the last row of the requirement
    pub trap_theorem :
        Trap n (truth_of (trap_table rows p) reads n (length (trap_table rows p) - 1)) (truth_of rows reads n (length rows - 1))
        (truth_of rows reads' n (length rows - 1))
    trap_theorem =
        rw (top_is, last_is)
        (trapped y done.state (λ b. flipped.under_none (rw (at_p b) at done.fresh)))
      where
        y : Way
        y = way added rows p

        done : Done (length rows) y
        done =
            climb_keeps added rows Done stay rise p
            (record {
              laid = laid_start rows p p_in;
              fresh = not_yet rows is.lower p 0 (omega arith) (omega arith);
              untouched = λ r x. absurd (omega arith);
              last = refl;
              state = inl refl;
            })

        top : Dec (suc y.at < length rows) → suc y.at ≡ length rows
        top (yes l) = absurd (omega (arith, is.once y.at l, done.fresh))
        top (no l) = omega (arith, done.laid.at_in)

        at_top : suc y.at ≡ length rows
        at_top = top (dec_lt (suc y.at) (length rows))

        top_is : length rows - 1 ≡ y.at
        top_is = omega (arith, at_top)

        last_is : length (trap_table rows p) - 1 ≡ y.trap
        last_is = omega (arith, done.last, trap_last y.rows y.at (length rows) at_top, length-append rows y.rows)
