-- A list that a call is given holds 64 instructions: its type says so.
use mathlib.Core.Path.{◌≡◌}
use mathlib.Core.List.{List}
use lib.ListN.{length}
use mir.Val.{Val}
use denote.Shadow.{shadow}
use Rattle.row.specs.declared.Instructions.{Instructions}
use Rattle.row.specs.Row.{most}
use Rattle.row.specs.contracts.Instructions.{the_row}

pub holds_most : (t : Instructions) {vs : List Val} → shadow (the_row.own_val t vs) → length t.held ≡ most
holds_most t p = let q = p.1.1 in q.0.1.0.1
