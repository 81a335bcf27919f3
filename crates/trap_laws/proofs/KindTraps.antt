-- The trap of a row from the trap of its child: one law, computed at all truth values of a step and the next.
-- Assumes nothing.
use mathlib.Core.Path.{◌≡◌, refl, sym}
use mathlib.Core.Bool.{Bool, true, false, not, ◌&&◌, ◌||◌, So, and-true, and-eq-true_iff}
use Prim.Native.Nat.{ℕ, zero, suc, ◌<◌}
use lib.Dec.{eqb}
use Rattle.rows.specs.declared.Kind.{Kind}
use Rattle.signals.specs.Signals.{Signal}
use Rattle.signals.specs.Truth.{meaning}
use Rattle.signals.specs.Column.{cell}
use Rattle.signal_laws.proofs.Bools.{◌⇒◌, ◌==◌, equal, same, apply, left, right, Test, all, at}
use Rattle.signal_laws.proofs.Cells.{row_cell, from_last}
use Rattle.rules.specs.TrapRows.{Side}
use Rattle.rules.specs.TrapRows.Side.{Left, Right}

-- over a run of n steps t is the trap of c, where d is c with the occurrence flipped: the flip only takes truth away, and t tells where
pub record Trap (n : ℕ) (t c d : Signal) : Type 0 where
  pub tells : (i : ℕ) → i < n → t i ≡ c i && not (d i)
  pub falls : (i : ℕ) → i < n → So (d i ⇒ c i)

-- what is false with the occurrence flipped is its own trap
pub own_trap : (n : ℕ) (c : Signal) → Trap n c c (λ _. false)
own_trap n c = record { tells = λ i l. sym (and-true (c i)); falls = λ i l. refl }

-- the same as a test of a step
abbrev trap : Bool → Bool → Bool → Bool
trap t c d = (t == (c && not d)) && (d ⇒ c)

tested : (n : ℕ) (t c d : Signal) → Trap n t c d → (i : ℕ) → i < n → So (trap (t i) (c i) (d i))
tested n t c d h i l = (and-eq-true_iff _ _).1 (same _ _ (h.tells i l), h.falls i l)

trap_of_lem : (n : ℕ) (t c d : Signal) → ((i : ℕ) → i < n → So (trap (t i) (c i) (d i))) → Trap n t c d
trap_of_lem n t c d h =
    record {
      tells = λ i l. equal _ _ (left (t i == (c i && not (d i))) _ (h i l));
      falls = λ i l. right (t i == (c i && not (d i))) _ (h i l);
    }

-- of the child on the way and the other child, the one that stands first; called with the two exchanged, the one that stands second
abbrev first_of : Side → Bool → Bool → Bool
first_of Left c o = c
first_of Right c o = o

abbrev pub beside : Side → Signal → Signal → Signal
beside side c o i = first_of side (c i) (o i)

-- the meaning of a row of kind k over two signals
abbrev pub two : Signal → Signal → ℕ → Signal
two a b zero = a
two a b (suc _) = b

abbrev pub over : ℕ → Kind → Signal → Signal → Signal
over n k a b = meaning n (two a b) (λ _. false) k 0 1

-- s is the meaning of a row of kind k that has the child c on a side and the other child o
abbrev pub Means : ℕ → Kind → Side → Signal → Signal → Signal → Type 0
Means n k side o c s = s ≡ over n k (beside side c o) (beside side o c)

-- how the trap of s comes from a row y: it is y; it is "s and y"; it is "s and y", where y is the negation of s flipped
pub data Form : Type 0 where
  Itself Joined Negated : Form

abbrev pub trap_by : Form → Bool → Bool → Bool
trap_by Itself s y = y
trap_by Joined s y = s && y
trap_by Negated s y = s && y

-- what holds of y, of s and of s flipped at every step
abbrev exact : Form → Bool → Bool → Bool
exact Itself y s' = true
exact Joined y s' = true
exact Negated y s' = y == not s'

abbrev kept : Form → Bool → Bool → Bool → Bool
kept form y s s' = trap (trap_by form s y) s s' && exact form y s'

-- the value at a step of a row of kind k that has the child c on a side and the other child o
abbrev way_cell : Kind → Side → Bool → Bool → Bool → Bool → Bool → Bool → Bool
way_cell k side c o c_next o_next s last = cell k false (first_of side c o) (first_of side o c) (first_of side c_next o_next) s last

-- where c has its trap, s has its own by a row y of kind j over A and B of o, of c and of the trap of c
abbrev pub rises : Kind → Side → Form → Kind → (Bool → Bool → Bool → Bool) → (Bool → Bool → Bool → Bool) → Test 11
rises k side form j A B =
    λ o c d o_next c_next d_next t_next y s s' last.
    (d ⇒ c)
    ⇒ (last || (trap t_next c_next d_next && kept form y s s'))
    ⇒ kept form
    (cell j false (A o c (c && not d)) (B o c (c && not d)) (A o_next c_next t_next) y last)
    (way_cell k side c o c_next o_next s last)
    (way_cell k side d o d_next o_next s' last)

-- the law: the trap of a row from that of its child
pub up :
    (k : Kind) (side : Side) (form : Form) (j : Kind) (A B : Bool → Bool → Bool → Bool) → So (all 11 (rises k side form j A B)) →
    (n : ℕ) (o t c d s s' y : Signal) → Trap n t c d → Means n k side o c s → Means n k side o d s' →
    y ≡ over n j (λ i. A (o i) (c i) (t i)) (λ i. B (o i) (c i) (t i)) → Trap n (λ i. trap_by form (s i) (y i)) s s'
up k side form j A B test n o t c d s s' y h e e' ey =
    trap_of_lem n _ s s'
    (λ i l. left (trap (trap_by form (s i) (y i)) (s i) (s' i)) _ (right (trap (t i) (c i) (d i)) _ (from_last n P step i l)))
  where
    P : Signal
    P i = trap (t i) (c i) (d i) && kept form (y i) (s i) (s' i)

    now : (i : ℕ) → i < n → So (eqb (suc i) n || P (suc i)) → So (kept form (y i) (s i) (s' i))
    now i l q =
        let y_cell = row_cell n i l (two _ _) (λ _. false) j 0 1 y ey in
        let s_cell = row_cell n i l (two _ _) (λ _. false) k 0 1 s e in
        let s'_cell = row_cell n i l (two _ _) (λ _. false) k 0 1 s' e' in
        rw (y_cell, s_cell, s'_cell, h.tells i l)
        (apply _ _
        (apply _ _
        (at 11 (rises k side form j A B) test (o i) (c i) (d i) (o (suc i)) (c (suc i)) (d (suc i)) (t (suc i)) (y (suc i)) (s (suc i))
        (s' (suc i)) (eqb (suc i) n))
        (h.falls i l))
        q)

    step : (i : ℕ) → i < n → So (eqb (suc i) n || P (suc i)) → So (P i)
    step i l q = (and-eq-true_iff (trap (t i) (c i) (d i)) _).1 (tested n t c d h i l, now i l q)
