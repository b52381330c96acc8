use Rattle.feed.specs.Scale.{mul_of}
use Rattle.feed.proofs.Results.{product_lt}
use Rattle.feed.proofs.scale.mul.Goals as goal

pub overflow_mul-result : goal.overflow_mul-result
overflow_mul-result c = record { fits = product_lt c.low_half.ensures.bounded c.low_half-2.ensures.bounded }

pub returns : goal.returns
unfolding mul_of
returns c = rw (c.low_half.ensures.value, c.low_half-2.ensures.value)
