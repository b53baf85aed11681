-- Which of the listing's errors is want of memory.
use Rattle.std.specs.Prelude.{Bool, true, false}
use Rattle.listing.specs.declared.listing.ListingError.{ListingError}
use Rattle.listing.specs.declared.listing.ListingError.TheVariants.{Record, Row, Memory}

abbrev pub is_memory : ListingError → Bool
is_memory (Record entry refusal) = false
is_memory (Row entry refusal) = false
is_memory (Memory e) = true
