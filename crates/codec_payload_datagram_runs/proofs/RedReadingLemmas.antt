-- What a receiver reads in a datagram in RED: its packet, and blocks of earlier packets.
use Rattle.std.proofs.Common.{◌≡◌, ◌∙◌, refl, sym, ap, subst, ℕ, zero, suc, ◌+◌, ◌-◌, ◌%◌, ◌^◌, ◌/◌, ◌<◌, ◌≤◌, ◌⊎◌, inl, inr, ◌&&◌, List, [], ◌∷◌, ◌++◌}
use Rattle.std.proofs.Common.{Bool, true, false, cond, eqb, ltb, leb, Option, Some, None, Ok, length, map, take, arith}
use Rattle.std.specs.Prelude.{slice_get}
use Rattle.std.specs.List.{AllByRecursion, cons_option, filter_map}
use Rattle.std.specs.Option.{option_map}
use Rattle.std.proofs.lemmas.Bool.{cases_lt, eq-eqb, leb-true, le-leb, lt-ltb}
use Rattle.std.proofs.lemmas.Option.{same_Some, slice_get-map}
use Rattle.codec_payload_base.specs.Extensions.{no_values}
use Rattle.codec_payload_base.specs.declared.wire.Ticks.{Ticks}
use Rattle.codec_payload_jitter.specs.Receiving.{Arrival}
use Rattle.codec_payload_red.proofs.RedRunLemmas.{fits_at, output_reads, recovers_sent, same_distances}
use Rattle.codec_payload_red.specs.RedBlocks.{Block, older}
use Rattle.codec_payload_buffer.proofs.MemberLemmas.{IsIn, in_contains}
use Rattle.codec_payload_red.specs.RedLevels.{Entry, Sender, is_accepted, level, output, wrapped}
use Rattle.codec_payload_red.specs.RedPayload.{Red, Redundant}
use Rattle.codec_payload_red.specs.RedReading.{red_at}
use Rattle.codec_payload_red.specs.RedRecovery.{Receiver, RecoveredPacket, recovered, recovered_from, recovered_older}
use Rattle.codec_payload_red.specs.RedRun.{AreOfSent, IsCarried, IsKeptIn, IsRecoverable, sender_at}
use Rattle.codec_payload_sending_red.specs.Writers.{IsInRed, Writer, Writes, WritesPacket, remembering, type_for}
use Rattle.codec_payload_rtp.proofs.RtpFields.{ok_is}
use Rattle.codec_payload_rtp.specs.RtpPackets as rtp
use Rattle.codec_payload_rtp.specs.RtpPackets.{Header, is_rtcp}
use Rattle.codec_payload_rtp.specs.RtpReading.{rtp_at}
use Rattle.codec_payload_buffer_runs.specs.RedSchedule.{all_remembered, remembered}
use Rattle.codec_payload_payloader.specs.Packets.{Packet}
use Rattle.codec_payload_sending.specs.declared.sender.Outgoing.{Outgoing}
use Rattle.codec_payload_datagrams.specs.Kinds.{Carrier, InRed, Kinds, carrier_with, datagram_at, is_other, is_sent_again, red_again_of, red_of}
use Rattle.codec_payload_receiver.specs.Sessions.{all_carried, block_arrival}
use Rattle.codec_payload_datagrams.specs.declared.kinds.RedStream.{RedStream}
use Rattle.codec_payload_datagrams.specs.declared.kinds.Retransmission.{Retransmission}
use Rattle.codec_payload_datagram_runs.proofs.ReadingLemmas.{is_no_rtcp, packet_at}
use Rattle.codec_payload_datagram_runs.specs.RedReleases.{entries_in, entry_read, is_ssrc_of}
use Rattle.codec_payload_datagram_runs.specs.RedRuns.{WritesAll}
use Rattle.codec_payload_datagram_runs.specs.Releases.{AreDatagrams, ReadsAs}

-- the datagrams as a writer remembers them
pub entries_are : (stream : Outgoing) (packets : List Packet) (datagrams : List (List ℕ)) → AreDatagrams stream packets datagrams → entries_in datagrams ≡ all_remembered packets
entries_are stream [] [] are = refl
entries_are stream [] (d ∷ ds) are = absurd are
entries_are stream (q ∷ qs) [] are = absurd are
entries_are stream (q ∷ qs) (d ∷ ds) are =
    let first : entry_read (rtp_at d) ≡ remembered q = ap entry_read are.0 in
    ap (λ (e : Entry). e ∷ entries_in ds) first ∙ ap (λ (es : List Entry). remembered q ∷ es) (entries_are stream qs ds are.1)

-- Written datagrams

-- a written datagram: its packet, and the writer before it
pub record IsWritten (stream : Outgoing) (packets : List Packet) (w : Writer) (k : ℕ) (bytes : List ℕ) : Type 0 where
  pub packet : Packet
  pub there : slice_get packets k ≡ Some packet
  pub before : Writer
  pub after : Writer
  pub before_is : before ≡ record w { red = sender_at w.red (all_remembered packets) k }
  pub in_red : IsInRed before (packet_at stream packet) bytes after

one_written : (stream : Outgoing) (w : Writer) (q : Packet) (d out : List ℕ) (t : Writer) → w.media_type ≡ stream.payload_type → ReadsAs stream q d → Writes w d out t
    → IsInRed w (packet_at stream q) out t
one_written stream w q d out t media reads one =
    let same : packet_at stream q ≡ one.packet = ok_is (packet_at stream q) one.packet (sym reads ∙ one.read) in
    let written : WritesPacket (eqb stream.payload_type w.media_type) w (packet_at stream q) d out t =
    subst (λ (p : rtp.Packet). WritesPacket (eqb p.header.payload_type w.media_type) w p d out t) (sym same) one.written in
    let own : eqb stream.payload_type w.media_type ≡ true = eq-eqb stream.payload_type w.media_type (sym media) in
    subst (λ (b : Bool). WritesPacket b w (packet_at stream q) d out t) own written

pub written_at : (stream : Outgoing) (packets : List Packet) (w : Writer) (ds outs : List (List ℕ)) (t : Writer) (k : ℕ) (bytes : List ℕ) → w.media_type ≡ stream.payload_type
    → AreDatagrams stream packets ds → WritesAll w ds outs t → slice_get outs k ≡ Some bytes → IsWritten stream packets w k bytes
written_at stream [] w [] outs t k bytes media are writes there =
    let none : slice_get {X = List ℕ} [] k ≡ Some bytes = subst (λ (os : List (List ℕ)). slice_get os k ≡ Some bytes) writes.0 there in absurd (cc)
written_at stream [] w (d ∷ ds) outs t k bytes media are writes there = absurd are
written_at stream (q ∷ qs) w [] outs t k bytes media are writes there = absurd are
written_at stream (q ∷ qs) w (d ∷ ds) outs t zero bytes media are writes there =
    let here : slice_get (writes.0 ∷ writes.1) zero ≡ Some bytes = subst (λ (os : List (List ℕ)). slice_get os zero ≡ Some bytes) writes.3 there in
    let is = one_written stream w q d writes.0 writes.2 media are.0 writes.4 in
    record {
      packet = q;
      there = refl;
      before = w;
      after = writes.2;
      before_is = refl;
      in_red = subst (λ (b : List ℕ). IsInRed w (packet_at stream q) b writes.2) (same_Some writes.0 bytes here) is;
    }
written_at stream (q ∷ qs) w (d ∷ ds) outs t (suc k) bytes media are writes there =
    let here : slice_get (writes.0 ∷ writes.1) (suc k) ≡ Some bytes = subst (λ (os : List (List ℕ)). slice_get os (suc k) ≡ Some bytes) writes.3 there in
    let is = one_written stream w q d writes.0 writes.2 media are.0 writes.4 in
    let mid : writes.2 ≡ remembering w (packet_at stream q) = is.remembered in
    let rest = written_at stream qs writes.2 ds writes.1 t k bytes (ap (λ (x : Writer). x.media_type) mid ∙ media) are.1 writes.5 here in
    record {
      packet = rest.packet;
      there = rest.there;
      before = rest.before;
      after = rest.after;
      before_is = rest.before_is ∙ ap (λ (x : Writer). record x { red = sender_at x.red (all_remembered qs) k }) mid;
      in_red = rest.in_red;
    }

-- The datagram

-- what a receiver finds in it
abbrev pub carrier_at : Receiver → Outgoing → Writer → Packet → Carrier
carrier_at receiver stream w q = carrier_with receiver (record (packet_at stream q).header { payload_type = w.red_type }) (wrapped w.red q.payload q.rtp_time w.budget)

not_sent_again : (r : Option Retransmission) (h : Header) → is_ssrc_of r h.ssrc ≡ false → is_sent_again r h ≡ false
not_sent_again None h other = refl
not_sent_again (Some r) h other = ap (λ (b : Bool). b && eqb r.payload_type h.payload_type) other

not_red_again : (r : Option Retransmission) (red : Option RedStream) (h : Header) → is_ssrc_of r h.ssrc ≡ false → red_again_of r red h ≡ None
not_red_again None red h other = refl
not_red_again (Some r) None h other = refl
not_red_again (Some r) (Some red) h other = rw other refl

pub record IsRedFor (stream : Outgoing) (w : Writer) (kinds : Kinds) (red : RedStream) : Type 0 where
  pub used : kinds.red ≡ Some red
  pub red_type : red.payload_type ≡ w.red_type
  pub other_type : eqb w.red_type kinds.payload_type ≡ false
  pub not_rtcp : (w.red_type < 64) ⊎ (95 < w.red_type)
  pub not_again : is_ssrc_of kinds.retransmission stream.ssrc ≡ false

pub red_datagram_is : (kinds : Kinds) (ssrc : Option ℕ) (stream : Outgoing) (red : RedStream) (w : Writer) (q : Packet) (bytes : List ℕ) (after : Writer)
    → IsRedFor stream w kinds red → is_accepted w.red.distances ≡ true → length q.payload < w.budget → is_other ssrc stream.ssrc ≡ false
    → IsInRed w (packet_at stream q) bytes after → datagram_at kinds ssrc bytes ≡ InRed (carrier_at red.receiver stream w q)
red_datagram_is kinds ssrc stream red w q bytes after is accepted room own in_red =
    let h : Header = record (packet_at stream q).header { payload_type = w.red_type } in
    let p : rtp.Packet = record { header = h; payload = output w.red q.payload q.rtp_time w.budget; padding = 0 } in
    let fits : type_for w q.payload ≡ w.red_type = ap (λ (b : Bool). cond b w.red_type w.media_type) (lt-ltb (length q.payload) w.budget room) in
    let reads : rtp_at bytes ≡ Ok p =
    in_red.reads ∙ ap (λ (n : ℕ). Ok (record { header = record (packet_at stream q).header { payload_type = n }; payload = output w.red q.payload q.rtp_time w.budget; padding = 0 })) fits in
    let no_rtcp : is_rtcp bytes ≡ false = is_no_rtcp bytes p reads is.not_rtcp in
    let again : is_sent_again kinds.retransmission h ≡ false = not_sent_again kinds.retransmission h is.not_again in
    let red_again : red_again_of kinds.retransmission kinds.red h ≡ None = not_red_again kinds.retransmission kinds.red h is.not_again in
    let other : eqb w.red_type kinds.payload_type ≡ false = is.other_type in
    let red_is : red_of kinds.red w.red_type ≡ Some red.receiver =
    ap (λ (o : Option RedStream). red_of o w.red_type) is.used ∙ ap (λ (b : Bool). cond b (Some red.receiver) None) (eq-eqb red.payload_type w.red_type is.red_type) in
    let payload : red_at (output w.red q.payload q.rtp_time w.budget) ≡ Some (wrapped w.red q.payload q.rtp_time w.budget) = output_reads w.red q.payload q.rtp_time w.budget accepted room in
    rw (no_rtcp, reads, again, other, red_again, own, other, red_is, payload) refl

-- Its blocks

-- the packet of a block, under two numbers of the packet that has the block
record IsBlockBack (m n : ℕ) (time : ℕ) (r : Receiver) (b : Block) (x : RecoveredPacket) : Type 0 where
  back : ℕ
  few : back ≤ 8
  number : x.seq_no ≡ m - back
  older : x.is_primary ≡ false
  there : recovered_older r n time b ≡ Some (record x { seq_no = n - back })

older_same : (r : Receiver) (m n time : ℕ) (b : Block) (x : RecoveredPacket) → 8 ≤ n → recovered_older r m time b ≡ Some x → IsBlockBack m n time r b x
older_same r m n time b x high found = by_tests (ltb 0 b.timestamp_offset) (eqb (b.timestamp_offset % r.step) 0) (leb (b.timestamp_offset / r.step) 8) (leb (b.timestamp_offset / r.step) m) refl refl refl found
  where
    there : RecoveredPacket
    there = record { seq_no = m - b.timestamp_offset / r.step; time = (time + (2 ^ 32 - b.timestamp_offset)) % 2 ^ 32; bytes = b.payload; is_primary = false }

    by_tests : (a d c e : Bool) → ltb 0 b.timestamp_offset ≡ a → eqb (b.timestamp_offset % r.step) 0 ≡ d → leb (b.timestamp_offset / r.step) 8 ≡ c
        → cond (((a && d) && c) && e) (Some there) None ≡ Some x → IsBlockBack m n time r b x
    by_tests true true true true some whole few is =
        let same : there ≡ x = same_Some there x is in
        let low : b.timestamp_offset / r.step ≤ 8 = leb-true (b.timestamp_offset / r.step) 8 few in
        let under : leb (b.timestamp_offset / r.step) n ≡ true = le-leb (b.timestamp_offset / r.step) n (omega (arith, low, high)) in
        subst (IsBlockBack m n time r b) same (record { back = b.timestamp_offset / r.step; few = low; number = refl; older = refl; there = rw (some, whole, few, under) refl })
    by_tests true true true false some whole few is = absurd (cc)
    by_tests true true false e some whole few is = absurd (cc)
    by_tests true false c e some whole few is = absurd (cc)
    by_tests false d c e some whole few is = absurd (cc)

-- a stored block is a packet that was sent before
pub record IsBlock (packets : List Packet) (w : Writer) (first k : ℕ) (now : Ticks) (a : Arrival) : Type 0 where
  pub index : ℕ
  pub packet : Packet
  pub there : slice_get packets index ≡ Some packet
  pub kept : IsKeptIn w.red w.budget (all_remembered packets) index k
  pub below : index < k
  pub near : k ≤ index + 8
  pub low : a.header.sequence_number ≡ (first + index) % 65536
  pub time : a.header.timestamp ≡ packet.rtp_time
  pub bytes : a.bytes ≡ packet.payload
  pub at : a.now ≡ now
  pub marker : a.header.marker ≡ false
  pub values : a.header.ext_vals ≡ no_values

abbrev pub AreBlocks : List Packet → Writer → ℕ → ℕ → Ticks → List Arrival → Type 0
AreBlocks packets w first k now [] = Unit {0}
AreBlocks packets w first k now (a ∷ more) = IsBlock packets w first k now a × AreBlocks packets w first k now more

-- the packet of an entry
entry_packet : (packets : List Packet) (j : ℕ) (e : Entry) → slice_get (all_remembered packets) j ≡ Some e → (q : Packet) × (slice_get packets j ≡ Some q) × (remembered q ≡ e)
entry_packet [] j e there = absurd (cc)
entry_packet (q ∷ packets) zero e there = (q, refl, same_Some (remembered q) e there)
entry_packet (q ∷ packets) (suc j) e there = entry_packet packets j e there

module _ (packets : List Packet) (w : Writer) (first k : ℕ) (now : Ticks) (kinds : Kinds) (ssrc : ℕ) (receiver : Receiver) (number time : ℕ) (number_is : number ≡ (first + k) % 65536) where
  abbrev Sent : RecoveredPacket → Type 0
  Sent = IsCarried w.red w.budget (first + 65536) (all_remembered packets) k

  block_is : (x : RecoveredPacket) (back : ℕ) → back ≤ 8 → x.seq_no ≡ 65536 + number - back → x.is_primary ≡ false → Sent (record x { seq_no = first + 65536 + k - back })
      → IsBlock packets w first k now (block_arrival kinds now ssrc x)
  block_is x back few number_x older sent =
      let place : first + 65536 + k - back ≡ first + 65536 + sent.index = sent.is_at.number in
      let earlier : sent.index < k = elim (cases_lt sent.index k) [
        | inl less ↦ less
        | inr more ↦
            let same : sent.index ≡ k = omega (arith, more, sent.not_later) in
            let test : eqb sent.index k ≡ true = eq-eqb sent.index k same in
            let not_test : eqb sent.index k ≡ false = sym sent.primary ∙ older in
            absurd (cc)
      ] in
      let q = entry_packet packets sent.index sent.is_at.entry sent.is_at.there in
      record {
        index = sent.index;
        packet = q.0;
        there = q.1;
        kept = elim sent.carried [ inl same ↦ absurd (omega (arith, same, earlier)) | inr kept ↦ kept ];
        below = earlier;
        near = omega (arith, place, few);
        low = ap (λ (n : ℕ). n % 65536) number_x ∙ omega (arith, place, few, number_is, earlier);
        time = sent.is_at.time ∙ sym (ap (λ (e : Entry). e.time) q.2);
        bytes = sent.is_at.bytes ∙ sym (ap (λ (e : Entry). e.bytes) q.2);
        at = refl;
        marker = refl;
        values = refl;
      }

  -- of a block, under the number of its datagram
  abbrev Found : Redundant → Option RecoveredPacket
  Found red = recovered_from receiver (65536 + number) time (older red)

  abbrev Extended : Redundant → Option RecoveredPacket
  Extended red = recovered_from receiver (first + 65536 + k) time (older red)

  found_older : (red : Redundant) (x : RecoveredPacket) → Found red ≡ Some x → (eqb red.pt receiver.primary_pt ≡ true) × (recovered_older receiver (65536 + number) time (older red) ≡ Some x)
  found_older red x found = by_type (eqb red.pt receiver.primary_pt) refl found
    where
      by_type : (b : Bool) → eqb red.pt receiver.primary_pt ≡ b → cond b (recovered_older receiver (65536 + number) time (older red)) None ≡ Some x
          → (eqb red.pt receiver.primary_pt ≡ true) × (recovered_older receiver (65536 + number) time (older red) ≡ Some x)
      by_type true is h = (is, h)
      by_type false is h = absurd (cc)

  found_is : (red : Redundant) (x : RecoveredPacket) → Found red ≡ Some x → (more : List RecoveredPacket) → AllByRecursion Sent (cons_option (Extended red) more)
      → IsBlock packets w first k now (block_arrival kinds now ssrc x) × AllByRecursion Sent more
  found_is red x found more all =
      let old = found_older red x found in
      let back = older_same receiver (65536 + number) (first + 65536 + k) time (older red) x (omega arith) old.1 in
      let y : RecoveredPacket = record x { seq_no = first + 65536 + k - back.back } in
      let is : Extended red ≡ Some y = ap (λ (b : Bool). cond b (recovered_older receiver (first + 65536 + k) time (older red)) None) old.0 ∙ back.there in
      let all_y : AllByRecursion Sent (cons_option (Some y) more) = subst (λ (o : Option RecoveredPacket). AllByRecursion Sent (cons_option o more)) is all in
      (block_is x back.back back.few back.number back.older all_y.0, all_y.1)

  skip_one : (o : Option RecoveredPacket) (more : List RecoveredPacket) → AllByRecursion Sent (cons_option o more) → AllByRecursion Sent more
  skip_one None more all = all
  skip_one (Some y) more all = all.1

  abbrev Others : List Redundant → Type 0
  Others reds = AreBlocks packets w first k now (filter_map (λ (b : Block). option_map (block_arrival kinds now ssrc) (recovered_from receiver (65536 + number) time b)) (map older reds))

  blocks_each : (reds : List Redundant) (rest : List Block) → AllByRecursion Sent (filter_map (recovered_from receiver (first + 65536 + k) time) (map older reds ++ rest))
      → AreBlocks packets w first k now (filter_map (λ (b : Block). option_map (block_arrival kinds now ssrc) (recovered_from receiver (65536 + number) time b)) (map older reds))
  blocks_each [] rest all = tt
  blocks_each (red ∷ reds) rest all = by_found (blocks_each reds rest) (Found red) refl
    where
      others : List RecoveredPacket
      others = filter_map (recovered_from receiver (first + 65536 + k) time) (map older reds ++ rest)

      by_found : (AllByRecursion Sent others → Others reds) → (o : Option RecoveredPacket) → Found red ≡ o
          → AreBlocks packets w first k now (cons_option (option_map (block_arrival kinds now ssrc) o)
          (filter_map (λ (b : Block). option_map (block_arrival kinds now ssrc) (recovered_from receiver (65536 + number) time b)) (map older reds)))
      by_found later None none = later (skip_one (Extended red) others all)
      by_found later (Some x) found = let one = found_is red x found others all in (one.0, later one.1)

-- all blocks of a written datagram
pub blocks_are : (stream : Outgoing) (packets : List Packet) (w : Writer) (first k : ℕ) (now : Ticks) (kinds : Kinds) (receiver : Receiver) (q : Packet)
    → IsRecoverable w.red receiver w.budget (all_remembered packets) → slice_get packets k ≡ Some q → q.number ≡ first + k
    → AreBlocks packets w first k now (all_carried kinds now (carrier_at receiver stream (record w { red = sender_at w.red (all_remembered packets) k }) q))
blocks_are stream packets w first k now kinds receiver q given there number =
    let sent : List Entry = all_remembered packets in
    let s : Sender = sender_at w.red sent k in
    let here : slice_get sent k ≡ Some (remembered q) = slice_get-map remembered packets k ∙ ap (λ o. option_map remembered o) there in
    let room : length q.payload < w.budget = fits_at w.budget sent k (remembered q) given.each_fits here in
    let accepted : is_accepted s.distances ≡ true = ap is_accepted (same_distances w.red (take k sent)) ∙ given.accepted in
    let red : Red = wrapped s q.payload q.rtp_time w.budget in
    let reads : red_at (output s q.payload q.rtp_time w.budget) ≡ Some red = output_reads s q.payload q.rtp_time w.budget accepted room in
    let all : AreOfSent w.red w.budget (first + 65536) sent k (recovered receiver (first + 65536 + k) q.rtp_time red) =
    recovers_sent w.red receiver w.budget (first + 65536) sent given k (remembered q) here (recovered receiver (first + 65536 + k) q.rtp_time red) (red, reads, refl) in
    let low : q.number % 2 ^ 16 ≡ (first + k) % 65536 = ap (λ (n : ℕ). n % 65536) number in
    blocks_each packets w first k now kinds stream.ssrc receiver (q.number % 2 ^ 16) q.rtp_time low red.redundant
    (record { pt = red.pt; timestamp_offset = 0; payload = red.primary; is_primary = true } ∷ []) all.were_sent

-- each packet in a kept level is in a block

-- the block of an item, or the last block gives it
abbrev FoundIn : (X : Type 0) → (Block → Option X) → List Redundant → Block → X → Type 0
FoundIn X f reds last x = ((red : Redundant) × IsIn red reds × (f (older red) ≡ Some x)) ⊎ (f last ≡ Some x)

found_later : (X : Type 0) (f : Block → Option X) (red : Redundant) (reds : List Redundant) (last : Block) (x : X) → FoundIn X f reds last x → FoundIn X f (red ∷ reds) last x
found_later X f red reds last x (inl one) = inl (one.0, inr one.1, one.2)
found_later X f red reds last x (inr own) = inr own

found_last : (X : Type 0) (f : Block → Option X) (last : Block) (x : X) (o : Option X) → f last ≡ o → IsIn x (cons_option o []) → f last ≡ Some x
found_last X f last x None none there = absurd there
found_last X f last x (Some y) found (inl same) = found ∙ ap Some (sym same)
found_last X f last x (Some y) found (inr never) = absurd never

found_first : (X : Type 0) (f : Block → Option X) (red : Redundant) (reds : List Redundant) (last : Block) (x : X)
    → (IsIn x (filter_map f (map older reds ++ last ∷ [])) → FoundIn X f reds last x)
    → (o : Option X) → f (older red) ≡ o → IsIn x (cons_option o (filter_map f (map older reds ++ last ∷ []))) → FoundIn X f (red ∷ reds) last x
found_first X f red reds last x rest None none there = found_later X f red reds last x (rest there)
found_first X f red reds last x rest (Some y) found (inl same) = inl (red, inl refl, found ∙ ap Some (sym same))
found_first X f red reds last x rest (Some y) found (inr more) = found_later X f red reds last x (rest more)

in_found : (X : Type 0) (f : Block → Option X) (reds : List Redundant) (last : Block) (x : X) → IsIn x (filter_map f (map older reds ++ last ∷ [])) → FoundIn X f reds last x
in_found X f [] last x is = inr (found_last X f last x (f last) refl is)
in_found X f (red ∷ reds) last x is = found_first X f red reds last x (in_found X f reds last x) (f (older red)) refl is

add_option : (X : Type 0) (x : X) (o : Option X) (xs : List X) → IsIn x xs → IsIn x (cons_option o xs)
add_option X x None xs is = is
add_option X x (Some y) xs is = inr is

found_in : (X : Type 0) (f : Block → Option X) (reds : List Redundant) (red : Redundant) (x : X) → IsIn red reds → f (older red) ≡ Some x → IsIn x (filter_map f (map older reds))
found_in X f [] red x is found = absurd is
found_in X f (r ∷ reds) red x (inl same) found =
    let here : f (older r) ≡ Some x = ap (λ (y : Redundant). f (older y)) (sym same) ∙ found in
    subst (λ (o : Option X). IsIn x (cons_option o (filter_map f (map older reds)))) (sym here) (inl refl)
found_in X f (r ∷ reds) red x (inr later) found = add_option X x (f (older r)) (filter_map f (map older reds)) (found_in X f reds red x later found)

-- a kept level is not that of the packet itself
pub kept_earlier : (w : Writer) (sent : List Entry) (j k : ℕ) → IsKeptIn w.red w.budget sent j k → j < k
kept_earlier w sent j k kept = by_distance kept.distance kept.back kept.is_level
  where
    by_distance : (d : ℕ) → j + d ≡ k → level ((sender_at w.red sent k).primary_pt % 128) kept.entry.time (sender_at w.red sent k).history d ≡ Some kept.block → j < k
    by_distance zero back found = absurd (cc)
    by_distance (suc d) back found = omega (arith, back)

-- an arrival with the time of the packet
pub kept_carried : (stream : Outgoing) (packets : List Packet) (w : Writer) (first k j : ℕ) (now : Ticks) (kinds : Kinds) (receiver : Receiver) (q p : Packet)
    → IsRecoverable w.red receiver w.budget (all_remembered packets) → slice_get packets k ≡ Some q → q.number ≡ first + k → IsKeptIn w.red w.budget (all_remembered packets) j k
    → slice_get packets j ≡ Some p
    → (a : Arrival) × IsIn a (all_carried kinds now (carrier_at receiver stream (record w { red = sender_at w.red (all_remembered packets) k }) q)) × (a.header.timestamp ≡ p.rtp_time)
    × (k ≤ j + 8)
kept_carried stream packets w first k j now kinds receiver q p given there number kept p_there =
    let sent : List Entry = all_remembered packets in
    let s : Sender = sender_at w.red sent k in
    let here : slice_get sent k ≡ Some (remembered q) = slice_get-map remembered packets k ∙ ap (λ o. option_map remembered o) there in
    let room : length q.payload < w.budget = fits_at w.budget sent k (remembered q) given.each_fits here in
    let accepted : is_accepted s.distances ≡ true = ap is_accepted (same_distances w.red (take k sent)) ∙ given.accepted in
    let red : Red = wrapped s q.payload q.rtp_time w.budget in
    let reads : red_at (output s q.payload q.rtp_time w.budget) ≡ Some red = output_reads s q.payload q.rtp_time w.budget accepted room in
    let all : AreOfSent w.red w.budget (first + 65536) sent k (recovered receiver (first + 65536 + k) q.rtp_time red) =
    recovers_sent w.red receiver w.budget (first + 65536) sent given k (remembered q) here (recovered receiver (first + 65536 + k) q.rtp_time red) (red, reads, refl) in
    let found = all.all_kept j kept in
    let x : RecoveredPacket = found.0 in
    let entry : slice_get sent j ≡ Some (remembered p) = slice_get-map remembered packets j ∙ ap (λ o. option_map remembered o) p_there in
    let same : found.2.entry ≡ remembered p = same_Some found.2.entry (remembered p) (sym found.2.there ∙ entry) in
    let time : x.time ≡ p.rtp_time = found.2.time ∙ ap (λ (e : Entry). e.time) same in
    let m : ℕ = 65536 + q.number % 2 ^ 16 in
    let n : ℕ = first + 65536 + k in
    elim (in_found RecoveredPacket (recovered_from receiver n q.rtp_time) red.redundant (record { pt = red.pt; timestamp_offset = 0; payload = red.primary; is_primary = true }) x
    (in_contains x (recovered receiver n q.rtp_time red) found.1)) [
      | inl one ↦
          let old = older_found receiver n q.rtp_time one.0 x one.2 in
          let back = older_same receiver n m q.rtp_time (older one.0) x (omega arith) old.1 in
          let y : RecoveredPacket = record x { seq_no = m - back.back } in
          let is : recovered_from receiver m q.rtp_time (older one.0) ≡ Some y = ap (λ (b : Bool). cond b (recovered_older receiver m q.rtp_time (older one.0)) None) old.0 ∙ back.there in
          let made : option_map (block_arrival kinds now stream.ssrc) (recovered_from receiver m q.rtp_time (older one.0)) ≡ Some (block_arrival kinds now stream.ssrc y) =
          ap (λ (o : Option RecoveredPacket). option_map (block_arrival kinds now stream.ssrc) o) is in (
            block_arrival kinds now stream.ssrc y,
            found_in Arrival (λ (b : Block). option_map (block_arrival kinds now stream.ssrc) (recovered_from receiver m q.rtp_time b)) red.redundant one.0 (block_arrival kinds now stream.ssrc y) one.1 made,
            time,
            let few = back.few in let number_x = back.number in let place = found.2.number in omega (arith, few, number_x, place),
          )
      | inr own ↦
          let number_x : x.seq_no ≡ n = primary_number receiver n q.rtp_time red x own in
          let place : x.seq_no ≡ first + 65536 + j = found.2.number in
          let earlier = kept_earlier w sent j k kept in
          absurd (omega (arith, number_x, place, earlier))
    ]
  where
    older_found : (r : Receiver) (n time : ℕ) (b : Redundant) (x : RecoveredPacket) → recovered_from r n time (older b) ≡ Some x → (eqb b.pt r.primary_pt ≡ true) × (recovered_older r n time (older b) ≡ Some x)
    older_found r n time b x found = by_type (eqb b.pt r.primary_pt) refl found
      where
        by_type : (t : Bool) → eqb b.pt r.primary_pt ≡ t → cond t (recovered_older r n time (older b)) None ≡ Some x → (eqb b.pt r.primary_pt ≡ true) × (recovered_older r n time (older b) ≡ Some x)
        by_type true is h = (is, h)
        by_type false is h = absurd (cc)

    primary_number : (r : Receiver) (n time : ℕ) (red : Red) (x : RecoveredPacket)
        → recovered_from r n time (record { pt = red.pt; timestamp_offset = 0; payload = red.primary; is_primary = true }) ≡ Some x → x.seq_no ≡ n
    primary_number r n time red x found = by_type (eqb red.pt r.primary_pt) found
      where
        by_type : (t : Bool) → cond t (Some (record { seq_no = n; time = time; bytes = red.primary; is_primary = true })) None ≡ Some x → x.seq_no ≡ n
        by_type true h = ap (λ (y : RecoveredPacket). y.seq_no) (sym (same_Some (record { seq_no = n; time = time; bytes = red.primary; is_primary = true }) x h))
        by_type false h = absurd (cc)
