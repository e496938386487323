-- The effect of a sample sent in RED, as a step of a run.
use Rattle.std.proofs.Common.{◌≡◌, ◌≢◌, ◌∙◌, sym, ap, refl, subst, ℕ, ◌+◌, ◌-◌, ◌<◌, ◌%◌, ◌^◌, ◌⊎◌, inl, inr}
use Rattle.std.proofs.Common.{List, [], ◌∷◌, ◌++◌, length, arith, append_assoc, length-append, Option, Some, None, Result, Ok, Err, OnOk, IfErr}
use Rattle.std.proofs.lemmas.List.{append-nil, map-append}
use Rattle.std.specs.Result.{result_err}
use Rattle.codec_payload_base.specs.declared.error.PacketError.{PacketError}
use Rattle.codec_payload_base.specs.declared.error.PacketError.TheVariants as faults
use Rattle.codec_payload_codec.specs.Packetizers.{is_built_in}
use Rattle.codec_payload_buffer.specs.Steps.{State}
use Rattle.codec_payload_buffer_runs.proofs.in_red.RedRuns.{after_append, length_in_red}
use Rattle.codec_payload_buffer_runs.proofs.order.ScheduleLemmas.{next_number, kept_packets, sent_it, refused_it, left_by}
use Rattle.codec_payload_payloader.proofs.SendLemmas.{Keeps}
use Rattle.codec_payload_payloader.specs.Packets.{Packet, SentPackets}
use Rattle.codec_payload_payloader.specs.RedPackets.{stream_of, sender_of, budget_of, handed_on, Remembers, FindsNoMemory}
use Rattle.codec_payload_buffer_runs.specs.RedSchedule.{remembered, all_remembered, all_in_red, RedState, red_state, SendsInRed, StopsSendingInRed}
use Rattle.codec_payload_buffer_runs.specs.Schedule.{RunState, run_state, SendsIt}
use Rattle.codec_payload_payloader.specs.Sending.{Sends, Sample, Payloading, packets_for, number_after, rtp_time_at, AreAs, SendsSample, SendsBeginning, SendsNothing}
use Rattle.codec_payload_payloader.specs.declared.red_sink.RedSink.{RedSink}
use Rattle.codec_payload_buffer_runs.specs.declared.run.Sent.{Sent}
use Rattle.codec_payload_red.specs.RedLevels.{Sender, recorded}
use Rattle.codec_payload_red.specs.RedRun.{sender_after}

-- a sink of RED over a sink in memory
abbrev pub KeepsInRed : RedSink SentPackets → Packet → Packet → RedSink SentPackets → Type 0
KeepsInRed before packet image after = Keeps (stream_of before) (handed_on before packet) image (stream_of after) × Remembers before packet after

abbrev pub RefusesInRed : RedSink SentPackets → Packet → PacketError → RedSink SentPackets → Type 0
RefusesInRed before packet fault after =
    FindsNoMemory before fault after ⊎ (((fault ≡ faults.OutOfMemory) × (stream_of after ≡ stream_of before)) × Remembers before packet after)

abbrev pub next_in_red : RedSink SentPackets → ℕ
next_in_red sink = next_number (stream_of sink)

abbrev pub kept_in_red : RedSink SentPackets → List Packet
kept_in_red sink = (stream_of sink).packets

-- the sink below, as if it held these packets
abbrev pub plain_sink : RedSink SentPackets → List Packet → SentPackets
plain_sink sink packets = record (stream_of sink) { packets = packets }

-- the sink below gains the packets in RED, and the sender remembers them
all_kept_in_red : (before : RedSink SentPackets) (packets images : List Packet) (after : RedSink SentPackets) → Sends KeepsInRed before packets images after
    → (stream_of after ≡ record (stream_of before) { packets = (stream_of before).packets ++ all_in_red (sender_of before) (budget_of before) packets })
    × (sender_of after ≡ sender_after (sender_of before) (all_remembered packets))
all_kept_in_red before [] images after sends = (
  ap stream_of sends.1 ∙ ap (λ (ps : List Packet). record (stream_of before) { packets = ps }) (sym (append-nil (stream_of before).packets)),
  ap sender_of sends.1,
)
all_kept_in_red before (p ∷ ps) images after sends =
    let mid = sends.2 in
    let rest = all_kept_in_red mid ps sends.1 after sends.5 in
    let kept = sends.4.0 in
    let sender = sends.4.1.0 in
    let budget = sends.4.1.1 in
    let same : all_in_red (sender_of mid) (budget_of mid) ps ≡ all_in_red (recorded (sender_of before) p.payload p.rtp_time) (budget_of before) ps =
    ap (λ (s : Sender). all_in_red s (budget_of mid) ps) sender ∙ ap (λ (b : ℕ). all_in_red (recorded (sender_of before) p.payload p.rtp_time) b ps) budget in (
      rest.0 ∙ (ap (λ (s : SentPackets). record s { packets = s.packets ++ all_in_red (sender_of mid) (budget_of mid) ps }) kept.1
          ∙ ap (λ (xs : List Packet). record (stream_of before) { packets = xs }) (append_assoc (stream_of before).packets (handed_on before p ∷ []) (all_in_red (sender_of mid) (budget_of mid) ps)
          ∙ ap (λ (xs : List Packet). (stream_of before).packets ++ handed_on before p ∷ xs) same)),
      rest.1 ∙ ap (λ (s : Sender). sender_after s (all_remembered ps)) sender,
    )

-- a sink without RED takes the same packets
sends_plainly : (before : RedSink SentPackets) (packets images : List Packet) (after : RedSink SentPackets) → Sends KeepsInRed before packets images after
    → (sent : List Packet) → length sent ≡ length (stream_of before).packets
    → Sends Keeps (plain_sink before sent) packets packets (plain_sink after (sent ++ packets))
sends_plainly before [] images after sends sent long = (refl, ap (λ (x : RedSink SentPackets). plain_sink x (sent ++ [])) sends.1 ∙ ap (λ (ps : List Packet). plain_sink before ps) (append-nil sent))
sends_plainly before (p ∷ ps) images after sends sent long =
    let mid = sends.2 in
    let kept = sends.4.0 in
    let grown : length (stream_of mid).packets ≡ length (stream_of before).packets + 1 = ap (λ (s : SentPackets). length s.packets) kept.1
    ∙ length-append (stream_of before).packets (handed_on before p ∷ []) in
    let longer : length (sent ++ p ∷ []) ≡ length (stream_of mid).packets = length-append sent (p ∷ []) ∙ omega (arith, long, grown) in
    let rest = sends_plainly mid ps sends.1 after sends.5 (sent ++ p ∷ []) longer in (
      p,
      ps,
      plain_sink mid (sent ++ p ∷ []),
      refl,
      (refl, ap (λ (s : SentPackets). record s { packets = sent ++ p ∷ [] }) kept.1, omega (arith, kept.2, longer)),
      subst (λ (qs : List Packet). Sends Keeps (plain_sink mid (sent ++ p ∷ [])) ps ps (plain_sink after qs)) (append_assoc sent (p ∷ []) ps) rest,
    )

-- numbers continue by the number of packets
images_many : (before : RedSink SentPackets) (packets images : List Packet) (after : RedSink SentPackets) → Sends KeepsInRed before packets images after → length images ≡ length packets
images_many before [] images after sends = ap length sends.0
images_many before (p ∷ ps) images after sends = ap length sends.3 ∙ omega (arith, images_many sends.2 ps sends.1 after sends.5)

number_by_count : (n : ℕ) (xs ys : List Packet) → length xs ≡ length ys → number_after n xs ≡ number_after n ys
number_by_count n [] [] same = refl
number_by_count n [] (y ∷ ys) same = absurd (omega (arith, same))
number_by_count n (x ∷ xs) [] same = absurd (omega (arith, same))
number_by_count n (x ∷ xs) (y ∷ ys) same = number_by_count ((n + 1) % 2 ^ 64) xs ys (omega (arith, same))

-- so the sample is sent as without RED
sample_plainly : (mtu : ℕ) (sample : Sample) (p p' : Payloading) (before after : RedSink SentPackets) (sent : List Packet) → length sent ≡ length (stream_of before).packets
    → (did : SendsSample KeepsInRed kept_in_red next_in_red mtu sample p before p' after)
    → SendsSample Keeps kept_packets next_number mtu sample p (plain_sink before sent) p' (plain_sink after (sent ++ did.packets))
sample_plainly mtu sample p p' before after sent long did =
    let number : next_in_red before ≡ (stream_of before).first + length sent = ap (λ n. (stream_of before).first + n) (sym long) in
    let kept = all_kept_in_red before did.packets did.images after did.sends in
    let total : length (stream_of after).packets ≡ length (sent ++ did.packets) =
    ap (λ (s : SentPackets). length s.packets) kept.0 ∙ (length-append (stream_of before).packets _
    ∙ omega (arith, length_in_red (sender_of before) (budget_of before) did.packets, long, length-append sent did.packets)) in
    record {
      payloads = did.payloads;
      packetized = did.packetized;
      packets = did.packets;
      are = subst (λ (n : ℕ). AreAs (is_built_in p'.packetizer) did.packets (packets_for p'.packetizer sample (rtp_time_at p.clock_rate sample.rtp_time) n did.payloads)) number did.are;
      images = did.packets;
      sends = sends_plainly before did.packets did.images after did.sends sent long;
      gained = refl;
      goes_on = ap (λ n. (stream_of after).first + n) (sym total)
          ∙ (did.goes_on ∙ (number_by_count (next_in_red before) did.images did.packets (images_many before did.packets did.images after did.sends)
          ∙ ap (λ n. number_after n did.packets) number));
    }

-- a step that sends in RED, with the packets that a sink without it would then hold
pub record SentInRed (place mtu : ℕ) (sample : Sample) (p p' : Payloading) (b : State) (sink sink' : SentPackets) (sender sender' : Sender) (budget : ℕ)
    (sent : List Packet) (count : ℕ) (fault : Option PacketError) : Type 0 where
  pub now : List Packet
  pub long : length now ≡ length sink'.packets
  pub plain : SendsIt place mtu sample (run_state p b (record sink { packets = sent }))
      (record { step = place; first = length sink.packets; count = count; fault = fault }) (run_state p' b (record sink' { packets = now }))
  pub in_red : SendsInRed budget (red_state p b sink sent sender) (red_state p' b sink' now sender')

sent_in_red : (place mtu : ℕ) (sample : Sample) (p p' : Payloading) (b : State) (before after : RedSink SentPackets) (sent : List Packet)
    → length sent ≡ length (stream_of before).packets → p'.clock_rate ≡ p.clock_rate
    → length (stream_of after).packets < 2 ^ 63 → SendsSample KeepsInRed kept_in_red next_in_red mtu sample p before p' after
    → SentInRed place mtu sample p p' b (stream_of before) (stream_of after) (sender_of before) (sender_of after) (budget_of before) sent
    (length (stream_of after).packets - length (stream_of before).packets) None
sent_in_red place mtu sample p p' b before after sent long clock few did =
    let kept = all_kept_in_red before did.packets did.images after did.sends in
    let now = sent ++ did.packets in
    let total : length now ≡ length (stream_of after).packets =
    length-append sent did.packets ∙ (omega (arith, length_in_red (sender_of before) (budget_of before) did.packets, long)
    ∙ (sym (length-append (stream_of before).packets _) ∙ sym (ap (λ (s : SentPackets). length s.packets) kept.0))) in
    let count : length now - length sent ≡ length (stream_of after).packets - length (stream_of before).packets = omega (arith, total, long) in
    record {
      now = now;
      long = total;
      plain = subst (λ (n : ℕ). SendsIt place mtu sample (run_state p b (plain_sink before sent))
          (record { step = place; first = length (stream_of before).packets; count = n; fault = None }) (run_state p' b (plain_sink after now))) count
          (subst (λ (n : ℕ). SendsIt place mtu sample (run_state p b (plain_sink before sent))
          (record { step = place; first = n; count = length now - length sent; fault = None }) (run_state p' b (plain_sink after now))) long
          (sent_it place mtu sample p p' b (plain_sink before sent) (plain_sink after now) clock (sample_plainly mtu sample p p' before after sent long did) (omega (arith, few, total))));
      in_red = record {
        packets = did.packets;
        gained = refl;
        images = ap (λ (s : SentPackets). s.packets) kept.0;
        sender = kept.1;
      };
    }

refused_in_red : (place mtu : ℕ) (sample : Sample) (fault : PacketError) (p p' : Payloading) (b : State) (before after : RedSink SentPackets) (sent : List Packet)
    → length sent ≡ length (stream_of before).packets → p'.clock_rate ≡ p.clock_rate
    → fault ≢ faults.OutOfMemory → length (stream_of before).packets < 2 ^ 63
    → (SendsNothing mtu sample fault p before p' after ⊎ SendsBeginning KeepsInRed RefusesInRed kept_in_red next_in_red mtu sample fault p before p' after)
    → SentInRed place mtu sample p p' b (stream_of before) (stream_of after) (sender_of before) (sender_of after) (budget_of before) sent
    (length (stream_of after).packets - length (stream_of before).packets) (Some fault)
refused_in_red place mtu sample fault p p' b before after sent long clock other few (inl nothing) =
    let same : plain_sink after sent ≡ plain_sink before sent = ap (λ (x : RedSink SentPackets). plain_sink x sent) nothing.same in
    let many = ap (λ (x : RedSink SentPackets). length (stream_of x).packets) nothing.same in
    let count : length sent - length sent ≡ length (stream_of after).packets - length (stream_of before).packets = omega (arith, many) in
    record {
      now = sent;
      long = long ∙ sym many;
      plain = subst (λ (n : ℕ). SendsIt place mtu sample (run_state p b (plain_sink before sent))
          (record { step = place; first = length (stream_of before).packets; count = n; fault = Some fault }) (run_state p' b (plain_sink after sent))) count
          (subst (λ (n : ℕ). SendsIt place mtu sample (run_state p b (plain_sink before sent))
          (record { step = place; first = n; count = length sent - length sent; fault = Some fault }) (run_state p' b (plain_sink after sent))) long
          (refused_it place mtu sample fault p p' b (plain_sink before sent) (plain_sink after sent) clock other (omega (arith, few, long))
          (inl (record { packetized = nothing.packetized; same = same }))));
      in_red = record {
        packets = [];
        gained = sym (append-nil sent);
        images = ap (λ (x : RedSink SentPackets). (stream_of x).packets) nothing.same ∙ sym (append-nil (stream_of before).packets);
        sender = ap (λ (x : RedSink SentPackets). sender_of x) nothing.same;
      };
    }
refused_in_red place mtu sample fault p p' b before after sent long clock other few (inr beginning) =
    absurd (other (elim beginning.refusal [ inl memory ↦ memory.0 | inr sink ↦ sink.0.0 ]))

-- the entry of a sample that was sent or refused
pub noted_in_red : {T : Type 0} (place mtu : ℕ) (sample : Sample) (answer : Result T PacketError) (fault : Option PacketError) (p p' : Payloading) (b : State)
    (before after : RedSink SentPackets) (sent : List Packet)
    → length sent ≡ length (stream_of before).packets → p'.clock_rate ≡ p.clock_rate → fault ≡ result_err answer → fault ≢ Some faults.OutOfMemory
    → length (stream_of before).packets < 2 ^ 63 → length (stream_of after).packets < 2 ^ 63
    → OnOk answer (SendsSample KeepsInRed kept_in_red next_in_red mtu sample p before p' after)
    → IfErr answer (λ refused. SendsNothing mtu sample refused p before p' after ⊎ SendsBeginning KeepsInRed RefusesInRed kept_in_red next_in_red mtu sample refused p before p' after)
    → SentInRed place mtu sample p p' b (stream_of before) (stream_of after) (sender_of before) (sender_of after) (budget_of before) sent
    (length (stream_of after).packets - length (stream_of before).packets) fault
noted_in_red place mtu sample (Ok x) fault p p' b before after sent long clock is other few few_after did refused = rw is
    (sent_in_red place mtu sample p p' b before after sent long clock few_after did)
noted_in_red place mtu sample (Err e) fault p p' b before after sent long clock is other few few_after did refused =
    rw is (refused_in_red place mtu sample e p p' b before after sent long clock (λ memory. other (is ∙ ap Some memory)) few refused)

-- memory was refused to a sample, with the packets that a sink without RED would then hold
pub record StoppedInRed (mtu : ℕ) (sample : Sample) (p p' : Payloading) (b : State) (sink sink' : SentPackets) (sender sender' : Sender) (budget : ℕ) (sent : List Packet) : Type 0 where
  pub now : List Packet
  pub long : length now ≡ length sink'.packets
  pub stops : StopsSendingInRed budget mtu sample (red_state p b sink sent sender) (red_state p' b sink' now sender')

abbrev the_state : RunState → List Packet → Sender → RedState
the_state plain images sender = record { plain = plain; images = images; sender = sender }

red_same : {x y : RunState} {ps qs : List Packet} {red red' : Sender} → x ≡ y → ps ≡ qs → red ≡ red' → the_state x ps red ≡ the_state y qs red'
red_same plain images sender = rw (plain, images, sender) refl

-- the sender's memory of the refused packet
refused_kept : (before mid after : RedSink SentPackets) (begun : List Packet) (refused : Packet) (fault : PacketError)
    → sender_of mid ≡ sender_after (sender_of before) (all_remembered begun) → RefusesInRed mid refused fault after
    → (kept : List Packet) × ((kept ≡ begun) ⊎ (kept ≡ begun ++ refused ∷ [])) × (sender_of after ≡ sender_after (sender_of before) (all_remembered kept)) × (stream_of after ≡ stream_of mid)
refused_kept before mid after begun refused fault sender (inl memory) = (begun, inl refl, memory.2 ∙ sender, memory.1)
refused_kept before mid after begun refused fault sender (inr sink) =
    let more = sink.1.0 ∙ ap (λ (s : Sender). recorded s refused.payload refused.rtp_time) sender in
    let whole : sender_after (sender_of before) (all_remembered (begun ++ refused ∷ [])) ≡ recorded (sender_after (sender_of before) (all_remembered begun)) refused.payload refused.rtp_time =
    ap (sender_after (sender_of before)) (map-append remembered begun (refused ∷ [])) ∙ after_append (sender_of before) (all_remembered begun) (all_remembered (refused ∷ [])) in
    (begun ++ refused ∷ [], inr refl, more ∙ sym whole, sink.0.1)

pub stopped_in_red : (mtu : ℕ) (sample : Sample) (p p' : Payloading) (b : State) (before after : RedSink SentPackets) (sent : List Packet)
    → length sent ≡ length (stream_of before).packets → p'.clock_rate ≡ p.clock_rate
    → (SendsNothing mtu sample faults.OutOfMemory p before p' after ⊎ SendsBeginning KeepsInRed RefusesInRed kept_in_red next_in_red mtu sample faults.OutOfMemory p before p' after)
    → StoppedInRed mtu sample p p' b (stream_of before) (stream_of after) (sender_of before) (sender_of after) (budget_of before) sent
stopped_in_red mtu sample p p' b before after sent long clock (inl nothing) =
    let plain = left_by p p' b (plain_sink before sent) (plain_sink after (sent ++ [])) [] clock (ap (λ (x : RedSink SentPackets). plain_sink x (sent ++ [])) nothing.same) in
    record {
      now = sent ++ [];
      long = ap length (append-nil sent) ∙ (long ∙ ap (λ (x : RedSink SentPackets). length (stream_of x).packets) (sym nothing.same));
      stops = (
        p'.packetizer,
        inl (
          nothing.packetized,
          red_same plain (ap (λ (x : RedSink SentPackets). (stream_of x).packets) nothing.same) (ap (λ (x : RedSink SentPackets). sender_of x) nothing.same),
        ),
      );
    }
stopped_in_red mtu sample p p' b before after sent long clock (inr beginning) =
    let begun = beginning.begun in
    let kept = all_kept_in_red before begun beginning.images beginning.mid beginning.sends in
    let refused = refused_kept before beginning.mid after begun beginning.refused faults.OutOfMemory kept.1 beginning.refusal in
    let stream = refused.3 ∙ kept.0 in
    let now = sent ++ begun in
    let number : next_in_red before ≡ (stream_of before).first + length sent = ap (λ n. (stream_of before).first + n) (sym long) in
    let plain = left_by p p' b (plain_sink before sent) (plain_sink after now) begun clock (ap (λ (s : SentPackets). record s { packets = now }) stream) in
    record {
      now = now;
      long = length-append sent begun ∙ (omega (arith, length_in_red (sender_of before) (budget_of before) begun, long)
          ∙ (sym (length-append (stream_of before).packets _) ∙ sym (ap (λ (s : SentPackets). length s.packets) stream)));
      stops = (
        p'.packetizer,
        inr (
          beginning.payloads,
          begun,
          beginning.refused,
          beginning.left,
          beginning.packetized,
          subst (λ (n : ℕ). AreAs (is_built_in p'.packetizer) (begun ++ beginning.refused ∷ beginning.left)
              (packets_for p'.packetizer sample (rtp_time_at p.clock_rate sample.rtp_time) n beginning.payloads)) number beginning.whole,
          refused.0,
          refused.1,
          red_same plain (ap (λ (s : SentPackets). s.packets) stream) refused.2,
        ),
      );
    }

-- the same, stated for what the sink borrows
pub sent_as : (place mtu : ℕ) (sample : Sample) (p p' : Payloading) (b : State) (before after : RedSink SentPackets) (sink sink' : SentPackets)
    (sender sender' : Sender) (budget : ℕ) (sent : List Packet) (count : ℕ) (fault : Option PacketError) (entry : Sent)
    → stream_of before ≡ sink → sender_of before ≡ sender → budget_of before ≡ budget → stream_of after ≡ sink' → sender_of after ≡ sender'
    → entry ≡ record { step = place; first = length (stream_of before).packets; count = count; fault = fault }
    → SentInRed place mtu sample p p' b (stream_of before) (stream_of after) (sender_of before) (sender_of after) (budget_of before) sent count fault
    → (now : List Packet) × (length now ≡ length sink'.packets)
    × SendsIt place mtu sample (run_state p b (record sink { packets = sent })) entry (run_state p' b (record sink' { packets = now }))
    × SendsInRed budget (red_state p b sink sent sender) (red_state p' b sink' now sender')
sent_as place mtu sample p p' b before after sink sink' sender sender' budget sent count fault entry e1 e2 e3 e4 e5 e6 did =
    rw (← e1, ← e2, ← e3, ← e4, ← e5, e6) (did.now, did.long, did.plain, did.in_red)

pub stopped_as : (mtu : ℕ) (sample : Sample) (p p' : Payloading) (b : State) (before after : RedSink SentPackets) (sink sink' : SentPackets) (sender sender' : Sender) (budget : ℕ) (sent : List Packet)
    → stream_of before ≡ sink → sender_of before ≡ sender → budget_of before ≡ budget → stream_of after ≡ sink' → sender_of after ≡ sender'
    → StoppedInRed mtu sample p p' b (stream_of before) (stream_of after) (sender_of before) (sender_of after) (budget_of before) sent
    → (now : List Packet) × (length now ≡ length sink'.packets) × StopsSendingInRed budget mtu sample (red_state p b sink sent sender) (red_state p' b sink' now sender')
stopped_as mtu sample p p' b before after sink sink' sender sender' budget sent e1 e2 e3 e4 e5 did =
    rw (← e1, ← e2, ← e3, ← e4, ← e5) (did.now, did.long, did.stops)

-- a step that sends nothing
pub sends_nothing : (budget : ℕ) (s : RedState) → SendsInRed budget s s
sends_nothing budget s = record { packets = []; gained = sym (append-nil s.plain.sink.packets); images = sym (append-nil s.images); sender = refl }
