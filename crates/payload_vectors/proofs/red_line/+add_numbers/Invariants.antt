use Rattle.std.proofs.Common.{length}
use Rattle.payload_vectors.proofs.red_line.+add_numbers.Given as goal

abbrev pub decreases-add_numbers : goal.decreases-add_numbers
decreases-add_numbers l = length l.fields.now
