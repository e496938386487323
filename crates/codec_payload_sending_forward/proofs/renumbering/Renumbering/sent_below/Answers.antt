use Rattle.std.proofs.Common.{◌≡◌, ◌+◌, ◌-◌, ◌%◌, ◌≤◌, ℕ, false, sym, subst, length, arith}
use Rattle.codec_payload_sending_forward.specs.Numbers.{Numbers, above, below, is_in, sent_as}
use Rattle.codec_payload_sending_forward.proofs.NumberLemmas.{above_few, low_below, parted}
use Rattle.codec_payload_sending_forward.proofs.renumbering.Renumbering.sent_below.Goals as goal

sum : (o n len a b : ℕ) → a + b ≡ len → len ≤ 4096 → b ≤ n → ((o + n % 65536) % 65536 + (65536 - (len - a))) % 65536 ≡ (n + o + 65536 - b) % 65536
sum o n len a b e few low = omega (arith, e, few, low)

pub returns : goal.returns
returns c = λ kept.
    let s = c.self.inside in
    let n = c.args.number in
    let xs = s.left_out.items in
    let out : is_in n xs ≡ false = subst (λ (x : Numbers). is_in n x.left_out ≡ false) (sym c.self.view_is) kept in
    let len : c.len.result ≡ length xs = omega arith in
    let up : c.args.count ≡ above n xs = subst (λ (x : Numbers). c.args.count ≡ above n x.left_out) (sym c.self.view_is) c.requires in
    let is : ((s.offset + n % 65536) % 65536 + (65536 - (c.len.result - c.args.count))) % 65536 ≡ (n + s.offset + 65536 - below n xs) % 65536 =
    sum s.offset n c.len.result c.args.count (below n xs) (omega (arith, len, up, parted n xs out)) (omega (arith, len, c.self.invariant.3)) (low_below n xs c.self.invariant.1) in
    subst (λ (x : Numbers). ((s.offset + n % 65536) % 65536 + (65536 - (c.len.result - c.args.count))) % 65536 ≡ sent_as x n) c.self.view_is is

pub overflow_sub-lower : goal.overflow_sub-lower
overflow_sub-lower c =
    let xs = c.self.inside.left_out.items in
    let up : c.args.count ≡ above c.args.number xs = subst (λ (x : Numbers). c.args.count ≡ above c.args.number x.left_out) (sym c.self.view_is) c.requires in
    omega (arith, up, above_few c.args.number xs, c.len.ensures)
