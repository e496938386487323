use Rattle.std.proofs.Common.{ℕ, List, ◌++◌, ◌∙◌, sym, ap, arith}
use Rattle.std.proofs.lemmas.List.{append-nil}
use Rattle.codec_payload_fec.specs.Strings.{BitString, bit_string, xor, xor_all}
use Rattle.codec_payload_fec.specs.Sums.{sum_of}
use Rattle.codec_payload_fec.specs.Writing.{chosen_in, lists_of}
use Rattle.codec_payload_fec.proofs.GroupLemmas.{chosen_more, chosen_none}
use Rattle.codec_payload_fec.proofs.WholeSums.{xor_all_push}
use Rattle.codec_payload_fec.proofs.writing.sum_of.Goals as goal
use Rattle.codec_payload_fec.proofs.writing.sum_of.Goals.{in-Some+in_ok-add_whole, in_default}

pub loop-place-init : goal.loop-place-init
loop-place-init c = c.zeros-sum.ensures ∙ ap xor_all (sym (chosen_none c.args.count c.args.n (lists_of c.args.group.now)))

pub loop-place-preserved : goal.loop-place-preserved
loop-place-preserved c =
    let group : List (List ℕ) = lists_of c.args.group.now in
    let before : List (List ℕ) = chosen_in c.loop-place.place c.args.count c.args.n group in
    let more = sym (chosen_more c.loop-place.place c.args.count c.args.n group) in
    elim c.match-chosen_at.branch [
      | in-Some+in_ok-add_whole w ↦
          ap sum_of w.sum-is ∙ w.in_ok-add_whole.ensures ∙ ap (λ (a : BitString). xor a (bit_string w.in-Some.packet.now)) c.loop-place.invariant
          ∙ xor_all_push before w.in-Some.packet.now ∙ ap (λ (ps : List (List ℕ)). xor_all (before ++ ps)) w.in-Some.ensures ∙ ap xor_all more
      | in_default w ↦
          ap sum_of w.sum-is ∙ c.loop-place.invariant ∙ ap xor_all (sym (append-nil before)) ∙ ap (λ (ps : List (List ℕ)). xor_all (before ++ ps)) w.in_default.ensures ∙ ap xor_all more
    ]

pub returns : goal.returns
returns c = c.loop-place.invariant ∙ ap (λ (k : ℕ). xor_all (chosen_in k c.args.count c.args.n (lists_of c.args.group.now))) (omega arith)
