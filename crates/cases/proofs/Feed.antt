-- The tables of the feed calculation, computed.
use mathlib.Core.Path.{refl}
use Rattle.cases.specs.Feed.{scaled_registers, quotients, disallowed, turns, FeedHolds}
use Rattle.cases.proofs.Computed.{left, said, each}

pub feed_holds : FeedHolds
unfolding scaled_registers quotients disallowed turns left said
feed_holds = (each scaled_registers refl, each quotients refl, each disallowed refl, each turns refl)
