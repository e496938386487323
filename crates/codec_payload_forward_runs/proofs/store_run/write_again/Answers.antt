use Rattle.std.proofs.Common.{◌≡◌, ◌∙◌, ◌++◌, ◌∷◌, [], List, ℕ, ap, append-nil, inl, inr, refl, rules, sym}
use Rattle.std.specs.Global.{Vec}
use Rattle.std.proofs.lemmas.List.{map-append}
use Rattle.codec_payload_rtp.specs.RtpValues.{packet_of}
use Rattle.codec_payload_datagram_runs.specs.WireRuns.{bytes_in}
use Rattle.codec_payload_forward_runs.specs.StoreRuns.{again_by}
use Rattle.codec_payload_forward_runs.proofs.store_run.write_again.Goals as goal
use Rattle.codec_payload_forward_runs.proofs.store_run.write_again.Goals.{then-written, else-written}

-- the store does not have the packet
pub returns-in_default-clause-ok : goal.returns-in_default-clause-ok
returns-in_default-clause-ok c =
    let same : c.reserve.new.self.items ≡ c.args.again.now.items = search rules in
    ([], inl (refl, refl, c.in_default.ensures.none, refl), ap bytes_in same ∙ sym (append-nil (bytes_in c.args.again.now.items)))

pub returns-clause-ok : goal.returns-clause-ok
returns-clause-ok c =
    let before : List (Vec ℕ) = c.args.again.now.items in
    let same : c.reserve.new.self.items ≡ before = search rules in
    let grown : bytes_in c.if-written.again.items ≡ bytes_in before ++ again_by c.in_ok-written.written c.write_again.new.out.items =
    elim c.if-written.branch [
      | then-written w ↦
          let pushed : c.if-written.again.items ≡ before ++ c.write_again.new.out ∷ [] = search rules in
          rw w.if-written.true (ap bytes_in pushed ∙ map-append (λ (v : Vec ℕ). v.items) before (c.write_again.new.out ∷ []))
      | else-written w ↦ rw w.if-written.false (ap (λ (v : Vec (Vec ℕ)). bytes_in v.items) w.again-is ∙ (ap bytes_in same ∙ sym (append-nil (bytes_in before))))
    ] in
    (c.write_again.new.out.items, inr (packet_of c.in-Some.packet, c.in-Some.ensures.some, c.in_ok-written.ensures.ok), grown)
