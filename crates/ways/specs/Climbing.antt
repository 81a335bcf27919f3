-- The engine's way up, which keeps the added rows by themselves. It is proved to be the way of document 01; nobody needs to believe this page.
-- Assumes nothing.
use Rattle.std.specs.Prelude.{cond, List, ℕ}
use Rattle.rows.specs.Rows.{Row, named}
use Rattle.ways.specs.declared.Stand.{Stand}
use Rattle.rules.specs.TrapRows.{Way, added, up_to, has}

-- the way so far: where the engine stands, and the rows added
abbrev pub way_at : Stand → List Row → Way
way_at stand rows = record { at = stand.at; trap = stand.trap; rows = rows }

-- the way after row s: one that does not name the row in hand leaves it as it is
abbrev pub passed : ℕ → ℕ → Row → Way → Way
passed n s row w = cond (has w.at (named row)) (up_to added n s row w) w
