-- Each example of the table ends as it stands there.
use mathlib.Core.Path.{refl}
use Rattle.cases.specs.Examples.{book_examples, ExamplesHold}
use Rattle.cases.proofs.Computed.{left, said, each}

pub examples_hold : ExamplesHold
unfolding book_examples left said
examples_hold = each book_examples refl
