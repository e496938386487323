use Rattle.std.proofs.Common.{◌≡◌, ◌≤◌, ℕ, ◌+◌, ◌*◌, ◌%◌, ◌^◌, ◌<◌, List, ◌++◌, length, take, ap, ◌∙◌, arith}
use Rattle.std.proofs.lemmas.List.{drop_all, length-take, take-append-drop}
use Rattle.codec_payload_base.specs.Bits.{bits, bits_of}
use Rattle.codec_payload_base.proofs.BitLemmas.{length-bits}
use Rattle.codec_payload_syntax.specs.FieldReaders.{left}
use Rattle.codec_payload_syntax.proofs.ReaderLemmas.{filled, filled_left, held_is, low_bits, low_small, one_more}
use Rattle.codec_payload_syntax.proofs.reader.FieldReader.fill.Goals as goal

low : (held w : ℕ) → held ≤ 48 → w % (1 * 2 ^ held % 18446744073709551616) < 2 ^ held
low held w few = rw (one_more held few) (low_small held w)

pub overflow_add-self : goal.overflow_add-self
overflow_add-self c =
    let held = held_is c.self.inside.held c.self.inside.window c.self.inside.behind.now c.args.self.now c.self.view_is in
    let f = filled c.self.inside.held (c.self.inside.window % (1 * 2 ^ c.self.inside.held % 18446744073709551616)) c.from.result c.self.inside.behind.now
    c.cut_four.result.0.now (low c.self.inside.held c.self.inside.window c.self.invariant) (omega (arith, c.requires, held)) c.cut_four.ensures.front
    (omega (arith, c.from.ensures, c.front_number.ensures.small)) in
    omega (arith, f.value, f.fits)

pub invariant_of-self : goal.invariant_of-self
invariant_of-self c =
    let held = held_is c.self.inside.held c.self.inside.window c.self.inside.behind.now c.args.self.now c.self.view_is in
    let f = filled c.self.inside.held (c.self.inside.window % (1 * 2 ^ c.self.inside.held % 18446744073709551616)) c.from.result c.self.inside.behind.now
    c.cut_four.result.0.now (low c.self.inside.held c.self.inside.window c.self.invariant) (omega (arith, c.requires, held)) c.cut_four.ensures.front
    (omega (arith, c.from.ensures, c.front_number.ensures.small)) in
    f.room

pub returns-clause-same : goal.returns-clause-same
returns-clause-same c =
    let held = held_is c.self.inside.held c.self.inside.window c.self.inside.behind.now c.args.self.now c.self.view_is in
    let f = filled c.self.inside.held (c.self.inside.window % (1 * 2 ^ c.self.inside.held % 18446744073709551616)) c.from.result c.self.inside.behind.now
    c.cut_four.result.0.now (low c.self.inside.held c.self.inside.window c.self.invariant) (omega (arith, c.requires, held)) c.cut_four.ensures.front
    (omega (arith, c.from.ensures, c.front_number.ensures.small)) in
    let front : List ℕ = c.cut_four.result.0.now in
    let rest : List ℕ = c.cut_four.result.1.now in
    let n : ℕ = 8 * length front in
    let bytes : List ℕ = c.self.inside.behind.now in
    let small : c.from.result < 2 ^ n = omega (arith, c.from.ensures, c.front_number.ensures.small) in
    let says : bits n c.from.result ≡ bits_of front = ap (bits n) c.from.ensures ∙ c.front_number.ensures.says in
    let whole : front ++ rest ≡ bytes = ap (λ (t : List ℕ). t ++ rest) c.cut_four.ensures.front ∙ ap (λ (t : List ℕ). take 4 bytes ++ t) c.cut_four.ensures.rest ∙ take-append-drop 4 bytes in
    ap (λ (x : ℕ). bits (c.self.inside.held + n) x ++ bits_of rest) f.value
    ∙ filled_left c.self.inside.held (c.self.inside.window % (1 * 2 ^ c.self.inside.held % 18446744073709551616)) n c.from.result front rest bytes small says whole
    ∙ ap (λ (t : ℕ). bits c.self.inside.held (c.self.inside.window % t) ++ bits_of bytes) (one_more c.self.inside.held c.self.invariant)
    ∙ ap (λ (t : List ℕ). t ++ bits_of bytes) (low_bits c.self.inside.held c.self.inside.window)
    ∙ ap left c.self.view_is

pub returns-clause-many : goal.returns-clause-many
returns-clause-many c =
    λ few.
    let n : ℕ = length c.cut_four.result.0.now in
    let held : ℕ = c.self.inside.held in
    let e = length-bits (held + 8 * n) (c.self.inside.window % (1 * 2 ^ held % 18446744073709551616) * 2 ^ (8 * n) % 18446744073709551616 + c.from.result) in
    let front : n ≡ length (take 4 c.self.inside.behind.now) = ap length c.cut_four.ensures.front in
    c.cut_four.ensures.rest ∙ drop_all 4 c.self.inside.behind.now (omega (arith, few, e, front, length-take 4 c.self.inside.behind.now))
