-- `travels::put_travels` meets its contract: the lines of the steps passed stand in order, and the travel carried is that at the step in hand.
use mathlib.Core.Path.{◌≡◌}
use mathlib.Core.List.{List}
use Prim.Native.Nat.{ℕ}
use Rattle.lines.proofs.InOrder.{InTurn}
use Rattle.encoder.specs.Log.{travel}
use Rattle.travels.specs.Travels.{travel_line}
use Rattle.travels.specs.Room.{travel_line_most}
use Rattle.travels.proofs.put_travels.Given as goal

abbrev pub said : List ℕ → ℕ → List ℕ
said log i = travel_line (travel log i)

abbrev pub invariant-loop-k : goal.invariant-loop-k
invariant-loop-k g l =
    InTurn (said l.log) travel_line_most l.initial.page.text.items l.k l.page.text.items × (l.gone.0 ≡ travel l.log l.k)
