-- The line that says a reply.
use Rattle.std.specs.Prelude.{ℕ, List}
use Rattle.table.specs.Call.{Reply, ok, refused}
use Rattle.answers.specs.Lines.{ok_line, refused_line}

unfoldable pub line_of : Reply → List ℕ
line_of (ok p m) = ok_line p m
line_of (refused n) = refused_line n
