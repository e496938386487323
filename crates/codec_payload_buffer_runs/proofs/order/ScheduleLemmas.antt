-- The effect of a sent sample, as a step of a run.
use Rattle.std.proofs.Common.{◌≡◌, ◌≢◌, ◌∙◌, sym, ap, refl, subst, ℕ, suc, ◌+◌, ◌-◌, ◌<◌, ◌%◌, ◌^◌, ◌⊎◌, inl, inr}
use Rattle.std.proofs.Common.{List, [], ◌∷◌, ◌++◌, length, arith, length-append, Option, Some, None, Result, Ok, Err, OnOk, OnErr, IfErr}
use Rattle.std.proofs.lemmas.List.{append-nil}
use Rattle.std.specs.Result.{result_err}
use Rattle.codec_payload_base.specs.declared.error.PacketError.{PacketError}
use Rattle.codec_payload_base.specs.declared.error.PacketError.TheVariants as faults
use Rattle.codec_payload_codec.specs.Packetizers.{PacketizerState, is_built_in}
use Rattle.codec_payload_payloader.specs.Packets.{Packet, SentPackets}
use Rattle.codec_payload_payloader.specs.Sending.{Sample, Payloading, packets_for, packets_from, rtp_time_at, SendsSample, SendsBeginning, SendsNothing}
use Rattle.codec_payload_buffer_runs.specs.Schedule.{run_state, after_send, SendsIt, StopsSending}
use Rattle.codec_payload_codec.specs.Depacketizers.{DepacketizerState}
use Rattle.codec_payload_buffer.specs.Held.{Held}
use Rattle.codec_payload_buffer.specs.Steps.{State, IsArrived}
use Rattle.codec_payload_metadata.specs.declared.meta.RtpMeta.{RtpMeta}
use Rattle.codec_payload_payloader.proofs.SendLemmas.{Keeps, kept_all, kept_numbered, as_many}

pub length-packets_for : (packetizer : PacketizerState) (sample : Sample) (rtp_time number : ℕ) (payloads : List (List ℕ))
    → length (packets_for packetizer sample rtp_time number payloads) ≡ length payloads
length-packets_for packetizer sample rtp_time number payloads = from 0 number payloads
  where
    from : (place number : ℕ) (payloads : List (List ℕ)) → length (packets_from packetizer sample rtp_time number place payloads) ≡ length payloads
    from place number [] = refl
    from place number (p ∷ ps) = ap suc (from (place + 1) ((number + 1) % 2 ^ 64) ps)

-- the number of the next packet of a sink in memory
abbrev pub next_number : SentPackets → ℕ
next_number s = s.first + length s.packets

abbrev pub kept_packets : SentPackets → List Packet
kept_packets s = s.packets

-- a sink in memory refuses only if memory runs out, and is then unchanged
abbrev pub Stays : SentPackets → Packet → PacketError → SentPackets → Type 0
Stays before packet fault after = (fault ≡ faults.OutOfMemory) × (after ≡ before)

-- the states after a sample went through a packetizer
pub left_by : (p p' : Payloading) (b : State) (sink sink' : SentPackets) (packets : List Packet) → p'.clock_rate ≡ p.clock_rate
    → sink' ≡ record sink { packets = sink.packets ++ packets } → run_state p' b sink' ≡ after_send (run_state p b sink) p'.packetizer packets
left_by p p' b sink sink' packets clock gained =
    ap (λ (c : ℕ). run_state (record { packetizer = p'.packetizer; clock_rate = c }) b sink') clock
    ∙ ap (λ (s : SentPackets). run_state (record p { packetizer = p'.packetizer }) b s) gained

pub sent_it : (place mtu : ℕ) (sample : Sample) (p p' : Payloading) (b : State) (sink sink' : SentPackets) → p'.clock_rate ≡ p.clock_rate
    → SendsSample Keeps kept_packets next_number mtu sample p sink p' sink' → length sink'.packets < 2 ^ 63
    → SendsIt place mtu sample (run_state p b sink) (record { step = place; first = length sink.packets; count = length sink'.packets - length sink.packets; fault = None }) (run_state p' b sink')
sent_it place mtu sample p p' b sink sink' clock sent few =
    let packets = sent.packets in
    let kept = kept_all sink packets sent.images sink' sent.sends in
    let grown = ap (λ (s : SentPackets). length s.packets) kept.1 in
    let total = length-append sink.packets packets in
    let many = as_many (is_built_in p'.packetizer) packets _ sent.are ∙ length-packets_for p'.packetizer sample (rtp_time_at p.clock_rate sample.rtp_time) (next_number sink) sent.payloads in
    let count : length sink'.packets - length sink.packets ≡ length sent.payloads = omega (arith, grown, total, many) in
    record {
      answer = Ok sent.payloads;
      packetizer = p'.packetizer;
      packetized = sent.packetized;
      not_memory = λ e. cc;
      entry_is = ap (λ (n : ℕ). record { step = place; first = length sink.packets; count = n; fault = None }) count;
      packets = packets;
      are = sent.are;
      numbered = kept_numbered (is_built_in p'.packetizer) p'.packetizer sample (rtp_time_at p.clock_rate sample.rtp_time)
          (next_number sink) sent.payloads sink sent.images sink' packets sent.are refl sent.sends;
      few = few;
      left = left_by p p' b sink sink' packets clock kept.1;
    }

pub refused_it : (place mtu : ℕ) (sample : Sample) (fault : PacketError) (p p' : Payloading) (b : State) (sink sink' : SentPackets) → p'.clock_rate ≡ p.clock_rate
    → fault ≢ faults.OutOfMemory → length sink.packets < 2 ^ 63
    → (SendsNothing mtu sample fault p sink p' sink' ⊎ SendsBeginning Keeps Stays kept_packets next_number mtu sample fault p sink p' sink')
    → SendsIt place mtu sample (run_state p b sink) (record {
      step = place;
      first = length sink.packets;
      count = length sink'.packets - length sink.packets;
      fault =
          Some fault;
    }) (run_state p' b sink')
refused_it place mtu sample fault p p' b sink sink' clock other few (inl nothing) =
    let many = ap (λ (s : SentPackets). length s.packets) nothing.same in
    let count : length sink'.packets - length sink.packets ≡ 0 = omega (arith, many) in
    record {
      answer = Err fault;
      packetizer = p'.packetizer;
      packetized = nothing.packetized;
      not_memory = λ e. other (cc);
      entry_is = ap (λ (n : ℕ). record { step = place; first = length sink.packets; count = n; fault = Some fault }) count;
      packets = [];
      are = tt;
      numbered = tt;
      few = omega (arith, few, many);
      left = left_by p p' b sink sink' [] clock (nothing.same ∙ ap (λ (ps : List Packet). record sink { packets = ps }) (sym (append-nil sink.packets)));
    }
refused_it place mtu sample fault p p' b sink sink' clock other few (inr beginning) = absurd (other beginning.refusal.0)

-- the entry of a sample that was sent or refused
pub noted_it : {T : Type 0} (place mtu : ℕ) (sample : Sample) (answer : Result T PacketError) (fault : Option PacketError) (p p' : Payloading) (b : State)
    (sink sink' : SentPackets) → p'.clock_rate ≡ p.clock_rate
    → fault ≡ result_err answer → fault ≢ Some faults.OutOfMemory → length sink.packets < 2 ^ 63 → length sink'.packets < 2 ^ 63
    → OnOk answer (SendsSample Keeps kept_packets next_number mtu sample p sink p' sink')
    → IfErr answer (λ refused. SendsNothing mtu sample refused p sink p' sink' ⊎ SendsBeginning Keeps Stays kept_packets next_number mtu sample refused p sink p' sink')
    → SendsIt place mtu sample (run_state p b sink) (record { step = place; first = length sink.packets; count = length sink'.packets - length sink.packets; fault = fault }) (run_state p' b sink')
noted_it place mtu sample (Ok x) fault p p' b sink sink' clock is other few few_after sent refused = rw is (sent_it place mtu sample p p' b sink sink' clock sent few_after)
noted_it place mtu sample (Err e) fault p p' b sink sink' clock is other few few_after sent refused =
    rw is (refused_it place mtu sample e p p' b sink sink' clock (λ memory. other (is ∙ ap Some memory)) few refused)

pub stopped_it : (mtu : ℕ) (sample : Sample) (p p' : Payloading) (b : State) (sink sink' : SentPackets) → p'.clock_rate ≡ p.clock_rate
    → (SendsNothing mtu sample faults.OutOfMemory p sink p' sink' ⊎ SendsBeginning Keeps Stays kept_packets next_number mtu sample faults.OutOfMemory p sink p' sink')
    → StopsSending mtu sample (run_state p b sink) (run_state p' b sink')
stopped_it mtu sample p p' b sink sink' clock (inl nothing) = (
  p'.packetizer,
  inl (
    nothing.packetized,
    left_by p p' b sink sink' [] clock (nothing.same ∙ ap (λ (ps : List Packet). record sink { packets = ps }) (sym (append-nil sink.packets))),
  ),
)
stopped_it mtu sample p p' b sink sink' clock (inr beginning) =
    let kept = kept_all sink beginning.begun beginning.images beginning.mid beginning.sends in (
      p'.packetizer,
      inr (
        beginning.payloads,
        beginning.begun,
        beginning.refused,
        beginning.left,
        beginning.packetized,
        beginning.whole,
        left_by p p' b sink sink' beginning.begun clock (beginning.refusal.1 ∙ kept.1),
      ),
    )
