-- Document 000, Theorems 1 to 3: the witness decides coverage, and the trap holds of a run exactly where the run covers the occurrence.
-- Assumes nothing.
use mathlib.Core.Path.{◌≡◌, refl, sym, ◌∙◌, ap}
use mathlib.Core.Logic.Iff
use mathlib.Core.Logic.{◌↔◌}
use mathlib.Core.Bool.{Bool, true, false, not, cond, So, and-eq-true_iff}
use mathlib.Core.List.{List, []}
use Prim.Native.Nat.{ℕ, ◌-◌, ◌<◌}
use native.Mathlib.Omega.{arith}
use native.Mathlib.Decide.{ℕ_discrete}
use borrow.Author.Tests.{eq-eqb, ne_eqb}
use lib.Dec.{eqb}
use lib.ListN.{length, get_or, get_or-append, replicate, length-replicate, get_or-replicate}
use Rattle.rows.specs.Rows.{Row, first, row_at}
use Rattle.rows.specs.Checks.{is_condition, IsRequirement}
use Rattle.signals.specs.Signals.{Signal}
use Rattle.signals.specs.Truth.{Reading, bit, reads_of, verdict_of, holds}
use Rattle.signal_laws.proofs.Bools.{◌⇒◌, ◌==◌, equal, apply, at}
use Rattle.signal_laws.proofs.Model.{agree, truth_model}
use Rattle.rules.specs.TrapRows.{trap_table, way, added}
use Rattle.trap_laws.proofs.Count.{not_yet}
use Rattle.trap_laws.proofs.Climb.{Flipped, trap_theorem}
use Rattle.coverage.specs.Coverage.{flip, witness_bit, Covered}
use Rattle.coverage.proofs.Monotone.{Le, same_le}
use Rattle.coverage.proofs.WitnessFlips.{witness_flips}
use Rattle.coverage.proofs.Extreme.{Nearer, extreme}

module _ (rows : List Row) (is : IsRequirement rows) (some_row : 0 < length rows) (n : ℕ) where
  abbrev pub Agree : Reading → Reading → Type 0
  Agree reads reads' = (r : ℕ) → r < length rows → reads r ≡ reads' r

  -- readings that agree on the table give the same verdict
  pub same_verdict : (reads reads' : Reading) → Agree reads reads' → verdict_of rows reads n ≡ verdict_of rows reads' n
  same_verdict reads reads' same =
      ap (λ (s : Signal). s 0)
      (agree n reads reads' rows _ _ is.lower (truth_model rows reads n is.lower) (truth_model rows reads' n is.lower) same
      (length rows - 1) (omega arith))

  -- and cover the same
  same_coverage : (p : ℕ) (reads reads' : Reading) → Agree reads reads' → Covered rows reads n p → Covered rows reads' n p
  same_coverage p reads reads' same c =
      record {
        held = rw (same_verdict reads reads' same) at c.held;
        sequence = c.sequence;
        as_long = c.as_long;
        false_by_it =
            let u : Signal = λ i. get_or c.sequence i false in
            rw (same_verdict (flip p u reads) (flip p u reads') (λ r l. ap (λ (x : Signal). cond (eqb r p) u x) (same r l))) at
            c.false_by_it;
      }

module _
    (rows : List Row) (is : IsRequirement rows) (p : ℕ) (p_in : p < length rows) (p_cond : So (is_condition (row_at rows p)))
  where
    module _ (n : ℕ) (some_step : 0 < n) (reads : Reading) where
      flipped : Flipped rows p (witness_bit rows p) reads (flip p (λ _. witness_bit rows p) reads)
      flipped = witness_flips rows is p reads

      abbrev verdict : Signal → Bool
      verdict f = verdict_of rows (flip p f reads) n

      verdict_le : (f g : Signal) → Nearer n (witness_bit rows p) f g → So (verdict f ⇒ verdict g)
      verdict_le f g near =
          extreme rows is p (witness_bit rows p) flipped.under_not n reads f g near (length rows - 1) (omega arith)
          (λ e. flipped.under_none (not_yet rows is.lower p (length rows) (omega arith) (omega arith)))
          0 some_step

      -- what is read past the run's last step changes nothing
      pub same_read :
          (f g : Signal) → ((i : ℕ) → i < n → f i ≡ g i) → verdict_of rows (flip p f reads) n ≡ verdict_of rows (flip p g reads) n
      same_read f g same =
          equal _ _
          (apply _ _
          (apply _ _ (at 2 (λ a b. (a ⇒ b) ⇒ (b ⇒ a) ⇒ a == b) refl (verdict f) (verdict g)) (verdict_le f g (λ _. below, λ _. above)))
          (verdict_le g f (λ _. above, λ _. below)))
        where
          below : Le n f g
          below = same_le n f g same

          above : Le n g f
          above = same_le n g f (λ i l. sym (same i l))

      nearest : (u : Signal) → Nearer n (witness_bit rows p) (λ _. witness_bit rows p) u
      nearest u = (λ e i l. rw e, λ e i l. rw e (at 1 (λ b. b ⇒ true) refl (u i)))

      -- document 000, Theorem 1: where any sequence makes the requirement false, the witness does
      pub extremal :
          (u : Signal) → So (not (verdict_of rows (flip p u reads) n)) →
          So (not (verdict_of rows (flip p (λ _. witness_bit rows p) reads) n))
      extremal u =
          apply _ _
          (apply _ _ (at 2 (λ a b. (a ⇒ b) ⇒ not b ⇒ not a) refl (verdict (λ _. witness_bit rows p)) (verdict u)) (verdict_le _ u (nearest u)))

      -- the witness makes nothing true
      pub only_falsifies : So (verdict_of rows (flip p (λ _. witness_bit rows p) reads) n) → So (verdict_of rows reads n)
      only_falsifies t =
          sym (same_verdict rows is (omega arith) n (flip p (reads p) reads) reads (λ r l. unflipped r (ℕ_discrete r p)))
          ∙ apply _ _ (verdict_le (λ _. witness_bit rows p) (reads p) (nearest (reads p))) t
        where
          unflipped : (r : ℕ) → Dec (r ≡ p) → flip p (reads p) reads r ≡ reads r
          unflipped r (yes e) = rw (eq-eqb r p e) (ap reads (sym e))
          unflipped r (no e) = rw (ne_eqb r p e)

      -- the witness decides coverage
      pub covered_iff :
          Covered rows reads n p
          ↔ (So (verdict_of rows reads n) × So (not (verdict_of rows (flip p (λ _. witness_bit rows p) reads) n)))
      covered_iff = (
        λ c. (c.held, extremal _ c.false_by_it),
        λ h.
            record {
              held = h.0;
              sequence = replicate n (witness_bit rows p);
              as_long = length-replicate n (witness_bit rows p);
              false_by_it = rw (same_read _ _ (λ i l. get_or-replicate n i (witness_bit rows p) false l)) h.1;
            },
      )

      trap_covers : So (verdict_of (trap_table rows p) reads n) ↔ Covered rows reads n p
      trap_covers =
          let tells = (trap_theorem rows is p p_in p_cond n reads _ (witness_bit rows p) flipped).tells 0 some_step in
          Iff.trans (λ t. sym tells ∙ t, λ t. tells ∙ t) (Iff.trans (and-eq-true_iff _ _) (Iff.symm covered_iff))

      -- document 000, Theorem 2: a run of which the trap holds covers the occurrence
      pub sound : So (verdict_of (trap_table rows p) reads n) → Covered rows reads n p
      sound = trap_covers.0

      -- document 000, Theorem 3: the trap holds of every run that covers the occurrence
      pub complete : Covered rows reads n p → So (verdict_of (trap_table rows p) reads n)
      complete = trap_covers.1

    -- the two theorems of a run, the added rows reading what they may
    pub trap_of_run : (run : List ℕ) → 0 < length run → So (holds (trap_table rows p) run) ↔ Covered rows (reads_of rows run) (length run) p
    trap_of_run run l =
        Iff.trans (trap_covers (length run) l (reads_of (trap_table rows p) run)) (
          same_coverage rows is (omega arith) (length run) p _ _ same,
          same_coverage rows is (omega arith) (length run) p _ _ (λ r m. sym (same r m)),
        )
      where
        same : (r : ℕ) → r < length rows → reads_of (trap_table rows p) run r ≡ reads_of rows run r
        same r m = ap {B = Signal} (λ (x : Row) (i : ℕ). bit (get_or run i 0) (first x)) (get_or-append rows (way added rows p).rows [] r m)
