-- `tsplib_lines::text_line::named` meets its contract: the words that are passed are not the text. Assumes nothing.
use mathlib.Core.Path.{◌≡◌}
use lib.ListN.{drop}
use Rattle.tsplib_lines.specs.TextLine.{named}
use Rattle.tsplib_lines.proofs.text_line.named.Given as goal

abbrev pub invariant-loop-word : goal.invariant-loop-word
invariant-loop-word g l = named l.text l.names ≡ named l.text (drop l.word-index l.names)
