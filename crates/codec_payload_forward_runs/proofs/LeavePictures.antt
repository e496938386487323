-- One picture closes for each frame of VP8 that is left out.
use Rattle.std.proofs.Common.{◌≡◌, ◌∙◌, refl, sym, ap, subst, ℕ, zero, suc, ◌+◌, ◌-◌, ◌%◌, ◌^◌, ◌<◌, ◌≤◌, List, [], ◌∷◌, ◌++◌, append-nil, length-append, Bool, true, false, cond, eqb, ltb, ◌&&◌, ◌||◌, Option, Some, None, Result, Ok, Err, length, arith}
use Rattle.std.specs.Prelude.{MatchOption, nat_lt, not, slice_get, slice_index_or}
use Rattle.std.proofs.lemmas.Bool.{eq-eqb, eqb-true, lt-ltb, ltb-false, ltb-true, ne_eqb}
use Rattle.std.proofs.lemmas.Option.{same_Some, slice_get_within}
use Rattle.codec_payload_base.specs.Described.{AnswersDescribed, described}
use Rattle.codec_payload_base.specs.PictureIds.{id_value, shortest_id}
use Rattle.codec_payload_base.specs.declared.error.PacketError.{PacketError}
use Rattle.codec_payload_base.specs.declared.wire.Codec.TheVariants as codecs
use Rattle.codec_payload_base.specs.declared.wire.Ticks.{Ticks}
use Rattle.codec_payload_buffer_runs.proofs.units.DescribedUnits.{NoneEmpty, none_empty}
use Rattle.codec_payload_codec.specs.Packetizers.{PacketizerState, PacketizerStep, Vp8Packetizing, is_built_in}
use Rattle.codec_payload_payloader.specs.Sending.{Sample}
use Rattle.codec_payload_receiver.specs.Sessions.{Session}
use Rattle.codec_payload_rtp.specs.RtpPackets.{Packet}
use Rattle.codec_payload_rtp.specs.RtpReading.{rtp_at}
use Rattle.codec_payload_rtp.specs.declared.rtp.RtpError.{RtpError}
use Rattle.codec_payload_sending.specs.Senders.{Sending, Sends}
use Rattle.codec_payload_sending_forward.proofs.NumberLemmas.{Order, all_below_less, below_all, below_more, below_same, in_more, less, low_below, more, not_in, order, same}
use Rattle.codec_payload_sending_forward.specs.Forwarding.{closing_id, picture_of}
use Rattle.codec_payload_sending_forward.specs.Numbers.{AllBelow, Falls, below, is_in}
use Rattle.codec_payload_sending_forward.specs.Vp8Numbers.{described_ids}
use Rattle.codec_payload_sending_forward.specs.declared.forwarder.Forwarded.{Forwarded}
use Rattle.codec_payload_sending_forward.specs.declared.forwarder.Forwarded.TheVariants as answers
use Rattle.codec_payload_vp8.specs.Vp8Descriptor.{Descriptor}
use Rattle.codec_payload_vp8.specs.Vp8Sent.{advanced, gives_packets, header, header_size}
use Rattle.codec_payload_vp8.specs.declared.vp8.descriptor.Vp8DescriptorError.{Vp8DescriptorError}
use Rattle.codec_payload_datagram_runs.specs.WireRuns.{Delivers, Receipt, SendsOrRefuses, Wire, sent_sample}
use Rattle.codec_payload_datagram_runs.specs.declared.run.SentSample.{SentSample}
use Rattle.codec_payload_forward_runs.proofs.LeaveEvents.{DoesSend, Happens}
use Rattle.codec_payload_forward_runs.proofs.LeaveIds.{Tracks}
use Rattle.codec_payload_forward_runs.proofs.LeaveLists.{below_next}
use Rattle.codec_payload_forward_runs.proofs.LeaveStreams.{entries_count, never_refuses, refused_as}
use Rattle.codec_payload_forward_runs.proofs.MovedVp8.{fits_by, parsed_with}
use Rattle.codec_payload_forward_runs.specs.ForwardRuns.{Hops}
use Rattle.codec_payload_forward_runs.specs.LeaveReleases.{AreWhole, Event, count_of, delivers, ends, firsts_in, forwards, gone_by, gone_in, leaves, pops, sends}

-- The id in a payload

value_is : (id : ℕ) → id_value (shortest_id id) ≡ id
value_is id = by (nat_lt id 128) refl
  where
    by : (b : Bool) → nat_lt id 128 ≡ b → id_value (shortest_id id) ≡ id
    by true e = rw e refl
    by false e = rw e refl

closes_one : (id : ℕ) → id < 2 ^ 15 → (first last : Bool) (piece : List ℕ) → 0 < length piece → closing_id codecs.Vp8 (header (Some id) first last ++ piece) ≡ Some id
closes_one id small first last piece some =
    ap (λ (r : Result Descriptor Vp8DescriptorError). picture_of (described_ids r)) (parsed_with first last (shortest_id id) piece (fits_by (nat_lt id 128) id refl small) some)
    ∙ ap (λ (n : ℕ). Some n) (value_is id)

closes_each : (id : ℕ) → id < 2 ^ 15 → (first : Bool) (pieces : List (List ℕ)) → NoneEmpty pieces → (i : ℕ) → i < length (described (header (Some id)) first pieces)
    → closing_id codecs.Vp8 (slice_index_or (described (header (Some id)) first pieces) i []) ≡ Some id
closes_each id small first [] full i l = absurd (omega (arith, l))
closes_each id small first (piece ∷ []) full zero l = closes_one id small first true piece full.0
closes_each id small first (piece ∷ []) full (suc i) l = absurd (omega (arith, l))
closes_each id small first (piece ∷ next ∷ pieces) full zero l = closes_one id small first false piece full.0
closes_each id small first (piece ∷ next ∷ pieces) full (suc i) l = closes_each id small false (next ∷ pieces) full.1 i (omega (arith, l))

closes_all : (id reserve mtu : ℕ) (frame : List ℕ) (payloads : List (List ℕ)) → id < 2 ^ 15 → AnswersDescribed (header (Some id)) reserve mtu frame (Ok payloads) → (i : ℕ) → i < length payloads
    → closing_id codecs.Vp8 (slice_index_or payloads i []) ≡ Some id
closes_all id reserve mtu frame payloads small answers i l = by (ltb reserve mtu) refl
  where
    by : (b : Bool) → ltb reserve mtu ≡ b → closing_id codecs.Vp8 (slice_index_or payloads i []) ≡ Some id
    by true e =
        let high : reserve < mtu = ltb-true reserve mtu e in
        let are = answers.1 high in
        let full : NoneEmpty are.0 = none_empty (mtu - reserve) are.0 (omega (arith, high)) are.1.sizes in
        subst (λ (ps : List (List ℕ)). closing_id codecs.Vp8 (slice_index_or ps i []) ≡ Some id) (sym are.2)
        (closes_each id small true are.0 full i (subst (λ (ps : List (List ℕ)). i < length ps) are.2 l))
    by false e = absurd (omega (arith, l, ap length (answers.0 (ltb-false reserve mtu e))))

-- The ids of frames, from `first` on. `starts` are the first datagrams of the frames, the highest first

-- the id of a datagram
abbrev pub id_at : (first : ℕ) → (starts : List ℕ) → ℕ → ℕ
id_at first starts k = (first + (below (k + 1) starts - 1)) % 32768

abbrev pub HaveIds : (first : ℕ) → (starts : List ℕ) → ℕ → List (List ℕ) → Type 0
HaveIds first starts k [] = Unit {0}
HaveIds first starts k (d ∷ ds) = ((p : Packet) → rtp_at d ≡ Ok p → closing_id codecs.Vp8 p.payload ≡ Some (id_at first starts k)) × HaveIds first starts (k + 1) ds

ids_append : (first : ℕ) (starts : List ℕ) (k : ℕ) (ds es : List (List ℕ)) → HaveIds first starts k ds → HaveIds first starts (k + length ds) es → HaveIds first starts k (ds ++ es)
ids_append first starts k [] es here rest = subst (λ (n : ℕ). HaveIds first starts n es) (omega arith) rest
ids_append first starts k (d ∷ ds) es here rest = (here.0, ids_append first starts (k + 1) ds es here.1 (subst (λ (n : ℕ). HaveIds first starts n es) (omega arith) rest))

-- a later start changes nothing
ids_later : (first start : ℕ) (starts : List ℕ) (k : ℕ) (ds : List (List ℕ)) → k + length ds ≤ start → HaveIds first starts k ds → HaveIds first (start ∷ starts) k ds
ids_later first start starts k [] l have = tt
ids_later first start starts k (d ∷ ds) l have = (
  λ p is. have.0 p is ∙ ap (λ (n : ℕ). Some ((first + (n - 1)) % 32768)) (sym (below_same (k + 1) start starts (omega (arith, l)))),
  ids_later first start starts (k + 1) ds (omega (arith, l)) have.1,
)

pub id_known : (first : ℕ) (starts : List ℕ) (k : ℕ) (ds : List (List ℕ)) (j : ℕ) (d : List ℕ) (p : Packet) → HaveIds first starts k ds → slice_get ds j ≡ Some d → rtp_at d ≡ Ok p
    → closing_id codecs.Vp8 p.payload ≡ Some (id_at first starts (k + j))
id_known first starts k [] j d p have there is = absurd (cc)
id_known first starts k (x ∷ ds) zero d p have there is =
    have.0 p (subst (λ (y : List ℕ). rtp_at y ≡ Ok p) (sym (same_Some x d there)) is) ∙ ap (λ (n : ℕ). Some (id_at first starts n)) (omega arith)
id_known first starts k (x ∷ ds) (suc j) d p have there is = id_known first starts (k + 1) ds j d p have.1 there is ∙ ap (λ (n : ℕ). Some (id_at first starts n)) (omega arith)

same_packet : (p q : Packet) → ◌≡◌ {A = Result Packet RtpError} (Ok p) (Ok q) → p ≡ q
same_packet p q is = cc

-- what was sent so far
pub record Frames (first : ℕ) (starts : List ℕ) (packetizer : PacketizerState) (ds : List (List ℕ)) : Type 0 where
  pub falls : Falls starts
  pub within : AllBelow (length ds) starts
  pub some : (k : ℕ) → k < length ds → 1 ≤ below (k + 1) starts
  pub have : HaveIds first starts 0 ds
  pub id : ℕ
  pub own : packetizer ≡ Vp8Packetizing (Some id)
  pub id_is : id % 32768 ≡ (first + length starts) % 32768

-- the next start, if a sample has datagrams
abbrev pub with_start : (sent count : ℕ) → List ℕ → List ℕ
with_start sent count starts = cond (ltb 0 count) (sent ∷ starts) starts

-- datagrams of one frame
frame_ids : (first : ℕ) (starts : List ℕ) (id k : ℕ) (ds : List (List ℕ)) → ((j : ℕ) → k ≤ j → id_at first starts j ≡ id)
    → ((i : ℕ) → i < length ds → (p : Packet) → rtp_at (slice_index_or ds i []) ≡ Ok p → closing_id codecs.Vp8 p.payload ≡ Some id) → HaveIds first starts k ds
frame_ids first starts id k [] flat each = tt
frame_ids first starts id k (d ∷ ds) flat each = (
  λ p is. each 0 (omega arith) p is ∙ ap (λ (n : ℕ). Some n) (sym (flat k (omega arith))),
  frame_ids first starts id (k + 1) ds (λ j l. flat j (omega (arith, l))) (λ i l. each (suc i) (omega (arith, l))),
)

-- a sample
frames_send : (first : ℕ) (starts : List ℕ) (sample : Sample) (s t : Sending) (ds : List (List ℕ)) → Frames first starts s.packetizer ds → Sends s (sent_sample sample) t
    → Frames first (with_start (length ds) (length t.datagrams) starts) t.packetizer (ds ++ t.datagrams)
frames_send first starts sample s t ds frames made = by made.payloads refl
  where
    step : PacketizerStep (Vp8Packetizing (Some frames.id)) s.mtu sample.bytes (Ok made.payloads) t.packetizer
    step = subst (λ (p : PacketizerState). PacketizerStep p s.mtu sample.bytes (Ok made.payloads) t.packetizer) frames.own (made.packetized (ap is_built_in frames.own))

    small : frames.id < 2 ^ 15
    small = step.0

    size : length t.datagrams ≡ length made.payloads
    size = made.sent.0

    whole : length (ds ++ t.datagrams) ≡ length ds + length t.datagrams
    whole = length-append ds t.datagrams

    each : (i : ℕ) → i < length t.datagrams → (p : Packet) → rtp_at (slice_index_or t.datagrams i []) ≡ Ok p → closing_id codecs.Vp8 p.payload ≡ Some frames.id
    each i l p is =
        let low : i < length made.payloads = omega (arith, size, l) in
        let at = made.sent.1 i low in
        ap (λ (q : Packet). closing_id codecs.Vp8 q.payload) (same_packet p _ (sym is ∙ at.reads))
        ∙ closes_all frames.id (header_size (Some frames.id)) s.mtu sample.bytes made.payloads small step.2.0 i low

    next : t.packetizer ≡ Vp8Packetizing (advanced (gives_packets (Ok made.payloads)) (Some frames.id))
    next = step.3 ∙ ap Vp8Packetizing step.2.1

    by : (payloads : List (List ℕ)) → made.payloads ≡ payloads → Frames first (with_start (length ds) (length t.datagrams) starts) t.packetizer (ds ++ t.datagrams)
    by [] e =
        let none : length t.datagrams ≡ 0 = size ∙ ap length e in
        let nothing : t.datagrams ≡ [] = is_nil t.datagrams none in
        let same_starts : with_start (length ds) (length t.datagrams) starts ≡ starts = ap (λ (n : ℕ). with_start (length ds) n starts) none in
        subst (λ (xs : List ℕ). Frames first xs t.packetizer (ds ++ t.datagrams)) (sym same_starts)
        (subst (λ (xs : List (List ℕ)). Frames first starts t.packetizer xs) (sym (ap (λ (xs : List (List ℕ)). ds ++ xs) nothing ∙ append-nil ds))
        (record {
          falls = frames.falls;
          within = frames.within;
          some = frames.some;
          have = frames.have;
          id = frames.id;
          own = next ∙ ap (λ (ps : List (List ℕ)). Vp8Packetizing (advanced (gives_packets (Ok ps)) (Some frames.id))) e;
          id_is = frames.id_is;
        }))
      where
        is_nil : (xs : List (List ℕ)) → length xs ≡ 0 → xs ≡ []
        is_nil [] l = refl
        is_nil (x ∷ xs) l = absurd (omega (arith, l))
    by (payload ∷ payloads) e =
        let some_sent : 0 < length t.datagrams = omega (arith, size, ap length e) in
        let new_starts : with_start (length ds) (length t.datagrams) starts ≡ length ds ∷ starts = ap (λ (b : Bool). cond b (length ds ∷ starts) starts) (lt-ltb 0 (length t.datagrams) some_sent) in
        let count : (j : ℕ) → length ds ≤ j → below (j + 1) (length ds ∷ starts) ≡ suc (length starts) =
        λ j l. below_more (j + 1) (length ds) starts (omega (arith, l)) ∙ ap suc (below_all (j + 1) starts (all_below_less (length ds) (j + 1) starts (omega (arith, l)) frames.within)) in
        let flat : (j : ℕ) → length ds ≤ j → id_at first (length ds ∷ starts) j ≡ frames.id =
        λ j l. ap (λ (n : ℕ). (first + (n - 1)) % 32768) (count j l) ∙ (ap (λ (n : ℕ). (first + n) % 32768) (omega arith) ∙ (sym frames.id_is ∙ omega (arith, small))) in
        subst (λ (xs : List ℕ). Frames first xs t.packetizer (ds ++ t.datagrams)) (sym new_starts)
        (record {
          falls = (frames.within, frames.falls);
          within = (omega (arith, whole, some_sent), all_below_less (length ds) (length (ds ++ t.datagrams)) starts (omega (arith, whole)) frames.within);
          some = λ k l. some_at k (order k (length ds)) count;
          have = ids_append first (length ds ∷ starts) 0 ds t.datagrams (ids_later first (length ds) starts 0 ds (omega arith) frames.have)
              (frame_ids first (length ds ∷ starts) frames.id (0 + length ds) t.datagrams (λ j l. flat j (omega (arith, l))) each);
          id = (frames.id + 1) % 32768;
          own = next ∙ ap (λ (ps : List (List ℕ)). Vp8Packetizing (advanced (gives_packets (Ok ps)) (Some frames.id))) e;
          id_is = omega (arith, frames.id_is);
        })
      where
        some_at : (k : ℕ) → Order k (length ds) → ((j : ℕ) → length ds ≤ j → below (j + 1) (length ds ∷ starts) ≡ suc (length starts)) → 1 ≤ below (k + 1) (length ds ∷ starts)
        some_at k (less l) count = omega (arith, below_same (k + 1) (length ds) starts (omega (arith, l)), frames.some k l)
        some_at k (same l) count = omega (arith, count k (omega (arith, l)))
        some_at k (more l) count = omega (arith, count k (omega (arith, l)))

-- A run

pub must_send : (sample : Sample) (s t : Sending) (fault : Option PacketError) (id : ℕ) → s.packetizer ≡ Vp8Packetizing (Some id) → SendsOrRefuses (sent_sample sample) s fault t → Sends s (sent_sample sample) t
must_send sample s t None id own does = does
must_send sample s t (Some fault) id own refuses =
    let step = refuses.1.packetized (ap is_built_in own) in
    let is : step.0 ≡ Err fault = refused_as step.0 fault refuses.0 step.2 in
    absurd (never_refuses id s.mtu sample.bytes fault t.packetizer refuses.0
    (subst (λ (p : PacketizerState). PacketizerStep p s.mtu sample.bytes (Err fault) t.packetizer) own
    (subst (λ (a : Result (List (List ℕ)) PacketError). PacketizerStep s.packetizer s.mtu sample.bytes a t.packetizer) is step.1)))

-- the first datagrams of all frames, and how many datagrams were sent
abbrev pub starts_in : ℕ → List ℕ → List Event → List ℕ
starts_in sent starts [] = starts
starts_in sent starts (sends i entry ∷ later) = starts_in (sent + count_of entry) (with_start sent (count_of entry) starts) later
starts_in sent starts (forwards k answer ∷ later) = starts_in sent starts later
starts_in sent starts (leaves k answer ∷ later) = starts_in sent starts later
starts_in sent starts (delivers j now ∷ later) = starts_in sent starts later
starts_in sent starts (pops now ∷ later) = starts_in sent starts later
starts_in sent starts (ends ∷ later) = starts_in sent starts later

abbrev pub total_in : ℕ → List Event → ℕ
total_in sent [] = sent
total_in sent (sends i entry ∷ later) = total_in (sent + count_of entry) later
total_in sent (forwards k answer ∷ later) = total_in sent later
total_in sent (leaves k answer ∷ later) = total_in sent later
total_in sent (delivers j now ∷ later) = total_in sent later
total_in sent (pops now ∷ later) = total_in sent later
total_in sent (ends ∷ later) = total_in sent later

total_more : (all_events : List Event) (sent : ℕ) → sent ≤ total_in sent all_events
total_more [] sent = omega arith
total_more (sends i entry ∷ later) sent = omega (arith, total_more later (sent + count_of entry))
total_more (forwards k answer ∷ later) sent = total_more later sent
total_more (leaves k answer ∷ later) sent = total_more later sent
total_more (delivers j now ∷ later) sent = total_more later sent
total_more (pops now ∷ later) sent = total_more later sent
total_more (ends ∷ later) sent = total_more later sent

-- what a step of the receiver or of the forwarder leaves
delivered_wire : (now : Ticks) (what : Option (List ℕ)) (s mid : Hops)
    → MatchOption what (mid ≡ s) (λ bytes. (receipt : Receipt) × (session : Session) × Delivers now bytes s.wire.session receipt session
    × (mid ≡ record s { wire = record s.wire { session = session; receipts = s.wire.receipts ++ receipt ∷ [] } }))
    → (mid.wire.sending ≡ s.wire.sending) × (mid.wire.datagrams ≡ s.wire.datagrams)
delivered_wire now None s mid stays = (ap (λ (x : Hops). x.wire.sending) stays, ap (λ (x : Hops). x.wire.datagrams) stays)
delivered_wire now (Some bytes) s mid done = (ap (λ (x : Hops). x.wire.sending) done.3, ap (λ (x : Hops). x.wire.datagrams) done.3)

-- what is known of a run: the ids of its datagrams, how many there are, and that no other was left out
pub record Known (first : ℕ) (all_events : List Event) (s t : Hops) (starts gone : List ℕ) : Type 0 where
  pub frames : Frames first (starts_in (length s.wire.datagrams) starts all_events) t.wire.sending.packetizer t.wire.datagrams
  pub total : length t.wire.datagrams ≡ total_in (length s.wire.datagrams) all_events
  pub under : AllBelow (length t.wire.datagrams) gone → AllBelow (length t.wire.datagrams) (gone_in gone all_events)

module _ (samples : List Sample) (first : ℕ) where
  frames_at : (starts : List ℕ) (s mid : Hops) → mid.wire.sending ≡ s.wire.sending → mid.wire.datagrams ≡ s.wire.datagrams → Frames first starts s.wire.sending.packetizer s.wire.datagrams
      → Frames first starts mid.wire.sending.packetizer mid.wire.datagrams
  frames_at starts s mid sending datagrams frames =
      subst (λ (ds : List (List ℕ)). Frames first starts mid.wire.sending.packetizer ds) (sym datagrams)
      (subst (λ (x : Sending). Frames first starts x.packetizer s.wire.datagrams) (sym sending) frames)

  frames_sent : (what : Option Sample) (entry : Option SentSample) (starts : List ℕ) (s mid : Hops) → DoesSend what entry s mid → Frames first starts s.wire.sending.packetizer s.wire.datagrams
      → Frames first (with_start (length s.wire.datagrams) (count_of entry) starts) mid.wire.sending.packetizer mid.wire.datagrams
  frames_sent None None starts s mid stays frames = subst (λ (x : Hops). Frames first starts x.wire.sending.packetizer x.wire.datagrams) (sym stays) frames
  frames_sent None (Some entry) starts s mid does frames = absurd does
  frames_sent (Some sample) None starts s mid does frames = absurd does
  frames_sent (Some sample) (Some entry) starts s mid does frames =
      let made = must_send sample s.wire.sending mid.wire.sending entry.fault frames.id frames.own does.0.sends in
      subst (λ (ds : List (List ℕ)). Frames first (with_start (length s.wire.datagrams) entry.count starts) mid.wire.sending.packetizer ds) (sym does.0.gained)
      (subst (λ (n : ℕ). Frames first (with_start (length s.wire.datagrams) n starts) mid.wire.sending.packetizer (s.wire.datagrams ++ mid.wire.sending.datagrams)) (sym does.0.count)
      (frames_send first starts sample s.wire.sending mid.wire.sending s.wire.datagrams frames made))

  -- after an event that sends nothing
  same_known : (event : Event) (later : List Event) (s mid t : Hops) (starts gone : List ℕ) → mid.wire.datagrams ≡ s.wire.datagrams
      → ((n : ℕ) → starts_in n starts (event ∷ later) ≡ starts_in n starts later) → ((n : ℕ) → total_in n (event ∷ later) ≡ total_in n later) → gone_in gone (event ∷ later) ≡ gone_in gone later
      → Known first later mid t starts gone → Known first (event ∷ later) s t starts gone
  same_known event later s mid t starts gone datagrams starts_are total_is gone_is known = record {
    frames = subst (λ (xs : List ℕ). Frames first xs t.wire.sending.packetizer t.wire.datagrams) (sym (starts_are (length s.wire.datagrams)))
        (subst (λ (ds : List (List ℕ)). Frames first (starts_in (length ds) starts later) t.wire.sending.packetizer t.wire.datagrams) datagrams known.frames);
    total = known.total ∙ (ap (λ (ds : List (List ℕ)). total_in (length ds) later) datagrams ∙ sym (total_is (length s.wire.datagrams)));
    under = λ low. subst (AllBelow (length t.wire.datagrams)) (sym gone_is) (known.under low);
  }

  gone_under : (bound k : ℕ) (answer : Forwarded) (gone : List ℕ) → k < bound → AllBelow bound gone → AllBelow bound (gone_by answer k gone)
  gone_under bound k answers.Began gone l low = low
  gone_under bound k answers.Written gone l low = low
  gone_under bound k answers.NoKeyframe gone l low = low
  gone_under bound k answers.OtherSource gone l low = low
  gone_under bound k answers.TooOld gone l low = low
  gone_under bound k answers.LeftOut gone l low = by (is_in k gone) refl
    where
      by : (b : Bool) → is_in k gone ≡ b → AllBelow bound (cond (is_in k gone) gone (k ∷ gone))
      by true e = rw e low
      by false e = rw e (l, low)
  gone_under bound k answers.Filled gone l low = low

  pub known : (all_events : List Event) (s t : Hops) (starts gone : List ℕ) → Frames first starts s.wire.sending.packetizer s.wire.datagrams → Happens samples all_events s t → Known first all_events s t starts gone
  known [] s t starts gone frames run = record {
    frames = subst (λ (x : Hops). Frames first starts x.wire.sending.packetizer x.wire.datagrams) (sym run) frames;
    total = ap (λ (x : Hops). length x.wire.datagrams) run;
    under = λ low. low;
  }
  known (sends i entry ∷ later) s t starts gone frames run =
      let mid : Hops = run.0 in
      let count : length mid.wire.datagrams ≡ length s.wire.datagrams + count_of entry = entries_count entry (slice_get samples i) s mid run.1 in
      let next : Known first later mid t (with_start (length s.wire.datagrams) (count_of entry) starts) gone =
      known later mid t (with_start (length s.wire.datagrams) (count_of entry) starts) gone (frames_sent (slice_get samples i) entry starts s mid run.1 frames) run.2 in
      record {
        frames = subst (λ (n : ℕ). Frames first (starts_in n (with_start (length s.wire.datagrams) (count_of entry) starts) later) t.wire.sending.packetizer t.wire.datagrams) count next.frames;
        total = next.total ∙ ap (λ (n : ℕ). total_in n later) count;
        under = next.under;
      }
  known (forwards k answer ∷ later) s t starts gone frames run =
      let mid : Hops = run.0 in
      let wire : mid.wire ≡ s.wire = ap (λ (x : Hops). x.wire) run.1.is in
      same_known (forwards k answer) later s mid t starts gone (ap (λ (w : Wire). w.datagrams) wire) (λ n. refl) (λ n. refl) refl
      (known later mid t starts gone (frames_at starts s mid (ap (λ (w : Wire). w.sending) wire) (ap (λ (w : Wire). w.datagrams) wire) frames) run.2)
  known (leaves k answer ∷ later) s t starts gone frames run =
      let mid : Hops = run.0 in
      let wire : mid.wire ≡ s.wire = ap (λ (x : Hops). x.wire) run.1.is in
      let next : Known first later mid t starts (gone_by answer k gone) =
      known later mid t starts (gone_by answer k gone) (frames_at starts s mid (ap (λ (w : Wire). w.sending) wire) (ap (λ (w : Wire). w.datagrams) wire) frames) run.2 in
      let total : length t.wire.datagrams ≡ total_in (length s.wire.datagrams) later = next.total ∙ ap (λ (w : Wire). total_in (length w.datagrams) later) wire in
      record {
        frames = subst (λ (w : Wire). Frames first (starts_in (length w.datagrams) starts later) t.wire.sending.packetizer t.wire.datagrams) wire next.frames;
        total = total;
        under = λ low.
            next.under (gone_under (length t.wire.datagrams) k answer gone
            (omega (arith, slice_get_within s.wire.datagrams k run.1.datagram run.1.there, total, total_more later (length s.wire.datagrams))) low);
      }
  known (delivers j now ∷ later) s t starts gone frames run =
      let mid : Hops = run.0 in
      let wire = delivered_wire now (slice_get s.written j) s mid run.1 in
      same_known (delivers j now) later s mid t starts gone wire.1 (λ n. refl) (λ n. refl) refl (known later mid t starts gone (frames_at starts s mid wire.0 wire.1 frames) run.2)
  known (pops now ∷ later) s t starts gone frames run =
      let mid : Hops = run.0 in
      let sending : mid.wire.sending ≡ s.wire.sending = ap (λ (x : Hops). x.wire.sending) run.1.2 ∙ ap (λ (w : Wire). w.sending) run.1.1.4 in
      let datagrams : mid.wire.datagrams ≡ s.wire.datagrams = ap (λ (x : Hops). x.wire.datagrams) run.1.2 ∙ ap (λ (w : Wire). w.datagrams) run.1.1.4 in
      same_known (pops now) later s mid t starts gone datagrams (λ n. refl) (λ n. refl) refl (known later mid t starts gone (frames_at starts s mid sending datagrams frames) run.2)
  known (ends ∷ later) s t starts gone frames run =
      let mid : Hops = run.0 in
      let sending : mid.wire.sending ≡ s.wire.sending = ap (λ (x : Hops). x.wire.sending) run.1.2 ∙ ap (λ (w : Wire). w.sending) run.1.1.2 in
      let datagrams : mid.wire.datagrams ≡ s.wire.datagrams = ap (λ (x : Hops). x.wire.datagrams) run.1.2 ∙ ap (λ (w : Wire). w.datagrams) run.1.1.2 in
      same_known ends later s mid t starts gone datagrams (λ n. refl) (λ n. refl) refl (known later mid t starts gone (frames_at starts s mid sending datagrams frames) run.2)

-- Lists

abbrev pub keep : (ℕ → Bool) → List ℕ → List ℕ
keep f [] = []
keep f (x ∷ xs) = cond (f x) (x ∷ keep f xs) (keep f xs)

low_in : (n bound : ℕ) (xs : List ℕ) → AllBelow bound xs → is_in n xs ≡ true → n < bound
low_in n bound xs all there = by (order n bound)
  where
    by : Order n bound → n < bound
    by (less l) = l
    by (same l) = absurd (let no : is_in n xs ≡ false = not_in n xs (all_below_less bound n xs (omega (arith, l)) all) in cc)
    by (more l) = absurd (let no : is_in n xs ≡ false = not_in n xs (all_below_less bound n xs (omega (arith, l)) all) in cc)

keep_below : (f : ℕ → Bool) (n : ℕ) (xs : List ℕ) → AllBelow n xs → AllBelow n (keep f xs)
keep_below f n [] all = tt
keep_below f n (x ∷ xs) all = by (f x) refl (keep_below f n xs all.1)
  where
    by : (b : Bool) → f x ≡ b → AllBelow n (keep f xs) → AllBelow n (cond (f x) (x ∷ keep f xs) (keep f xs))
    by true e rest = rw e (all.0, rest)
    by false e rest = rw e rest

keep_falls : (f : ℕ → Bool) (xs : List ℕ) → Falls xs → Falls (keep f xs)
keep_falls f [] falls = tt
keep_falls f (x ∷ xs) falls = by (f x) refl (keep_falls f xs falls.1)
  where
    by : (b : Bool) → f x ≡ b → Falls (keep f xs) → Falls (cond (f x) (x ∷ keep f xs) (keep f xs))
    by true e rest = rw e (keep_below f x xs falls.0, rest)
    by false e rest = rw e rest

and_false : (b : Bool) → (b && false) ≡ false
and_false true = refl
and_false false = refl

keep_in : (f : ℕ → Bool) (n : ℕ) (xs : List ℕ) → is_in n (keep f xs) ≡ (is_in n xs && f n)
keep_in f n [] = refl
keep_in f n (x ∷ xs) = by (eqb x n) refl (f x) refl (keep_in f n xs)
  where
    by : (a : Bool) → eqb x n ≡ a → (b : Bool) → f x ≡ b → is_in n (keep f xs) ≡ (is_in n xs && f n) → is_in n (cond (f x) (x ∷ keep f xs) (keep f xs)) ≡ ((eqb x n || is_in n xs) && f n)
    by true e true g rest =
        let here : f n ≡ true = ap f (sym (eqb-true x n e)) ∙ g in
        rw (g, e, here) refl
    by true e false g rest =
        let here : f n ≡ false = ap f (sym (eqb-true x n e)) ∙ g in
        rw (g, e) (rest ∙ (ap (λ (b : Bool). is_in n xs && b) here ∙ (and_false (is_in n xs) ∙ sym here)))
    by false e true g rest = rw (g, e) rest
    by false e false g rest = rw (g, e) rest

in_first : (x : ℕ) (xs : List ℕ) → is_in x (x ∷ xs) ≡ true
in_first x xs = ap (λ (b : Bool). b || is_in x xs) (eq-eqb x x refl)

-- falling lists of the same numbers are the same
falls_same : (xs ys : List ℕ) → Falls xs → Falls ys → ((n : ℕ) → is_in n xs ≡ is_in n ys) → xs ≡ ys
falls_same [] [] f g equal = refl
falls_same [] (y ∷ ys) f g equal = absurd (let no : false ≡ true = equal y ∙ in_first y ys in cc)
falls_same (x ∷ xs) [] f g equal = absurd (let no : true ≡ false = sym (in_first x xs) ∙ equal x in cc)
falls_same (x ∷ xs) (y ∷ ys) f g equal = by (order x y) (falls_same xs ys f.1 g.1)
  where
    rest_equal : x ≡ y → (n : ℕ) → is_in n xs ≡ is_in n ys
    rest_equal e n = at (order n x)
      where
        at : Order n x → is_in n xs ≡ is_in n ys
        at (less l) = sym (in_more n x xs (λ q. omega (arith, q, l))) ∙ (equal n ∙ in_more n y ys (λ q. omega (arith, q, l, e)))
        at (same l) = not_in n xs (all_below_less x n xs (omega (arith, l)) f.0) ∙ sym (not_in n ys (all_below_less y n ys (omega (arith, l, e)) g.0))
        at (more l) = sym (in_more n x xs (λ q. omega (arith, q, l))) ∙ (equal n ∙ in_more n y ys (λ q. omega (arith, q, l, e)))

    by : Order x y → (((n : ℕ) → is_in n xs ≡ is_in n ys) → xs ≡ ys) → x ∷ xs ≡ y ∷ ys
    by (less l) rest = absurd (let no : false ≡ true = sym (not_in y (x ∷ xs) (l, all_below_less x y xs (omega (arith, l)) f.0)) ∙ (equal y ∙ in_first y ys) in cc)
    by (same l) rest = ap (λ (n : ℕ). n ∷ xs) l ∙ ap (λ (zs : List ℕ). y ∷ zs) (rest (rest_equal l))
    by (more l) rest = absurd (let no : true ≡ false = sym (in_first x xs) ∙ (equal x ∙ not_in x (y ∷ ys) (l, all_below_less y x ys (omega (arith, l)) g.0)) in cc)

-- Which datagrams are first

-- a start stays one
starts_stay : (all_events : List Event) (sent n : ℕ) (starts : List ℕ) → is_in n starts ≡ true → is_in n (starts_in sent starts all_events) ≡ true
starts_stay [] sent n starts there = there
starts_stay (sends i entry ∷ later) sent n starts there = starts_stay later (sent + count_of entry) n (with_start sent (count_of entry) starts) (by (ltb 0 (count_of entry)))
  where
    or_true : (b : Bool) → (b || true) ≡ true
    or_true true = refl
    or_true false = refl

    by : (b : Bool) → is_in n (cond b (sent ∷ starts) starts) ≡ true
    by true = ap (λ (c : Bool). eqb sent n || c) there ∙ or_true (eqb sent n)
    by false = there
starts_stay (forwards k answer ∷ later) sent n starts there = starts_stay later sent n starts there
starts_stay (leaves k answer ∷ later) sent n starts there = starts_stay later sent n starts there
starts_stay (delivers j now ∷ later) sent n starts there = starts_stay later sent n starts there
starts_stay (pops now ∷ later) sent n starts there = starts_stay later sent n starts there
starts_stay (ends ∷ later) sent n starts there = starts_stay later sent n starts there

-- a datagram that is not the first of its frame was left out as the one before it was
whole_before : (gone : List ℕ) (all_events : List Event) (sent k : ℕ) (starts : List ℕ) → AreWhole gone sent all_events → sent ≤ k → k < total_in sent all_events → is_in k (starts_in sent starts all_events) ≡ false
    → is_in k gone ≡ is_in (k - 1) gone
whole_before gone [] sent k starts whole l m none = absurd (omega (arith, l, m))
whole_before gone (sends i entry ∷ later) sent k starts whole l m none = by (order k (sent + count_of entry)) (order k sent) (λ from. whole_before gone later (sent + count_of entry) k (with_start sent (count_of entry) starts) whole.1 from m none)
  where
    here : (j : ℕ) → sent ≤ j → j < sent + count_of entry → is_in j gone ≡ is_in sent gone
    here j from low = ap (λ (n : ℕ). is_in n gone) (omega (arith, from)) ∙ whole.0 (j - sent) (omega (arith, from, low))

    begins : 0 < count_of entry → k ≡ sent → is_in k (starts_in sent starts (sends i entry ∷ later)) ≡ true
    begins some e =
        starts_stay later (sent + count_of entry) k (with_start sent (count_of entry) starts)
        (ap (λ (b : Bool). is_in k (cond b (sent ∷ starts) starts)) (lt-ltb 0 (count_of entry) some) ∙ ap (λ (b : Bool). b || is_in k starts) (eq-eqb sent k (omega (arith, e))))

    by : Order k (sent + count_of entry) → Order k sent → (sent + count_of entry ≤ k → is_in k gone ≡ is_in (k - 1) gone) → is_in k gone ≡ is_in (k - 1) gone
    by (less low) (less x) rest = absurd (omega (arith, x, l))
    by (less low) (same x) rest = absurd (let start : is_in k (starts_in sent starts (sends i entry ∷ later)) ≡ true = begins (omega (arith, low, x)) x in cc)
    by (less low) (more x) rest = here k l low ∙ sym (here (k - 1) (omega (arith, x)) (omega (arith, low, x)))
    by (same low) x rest = rest (omega (arith, low))
    by (more low) x rest = rest (omega (arith, low))
whole_before gone (forwards j answer ∷ later) sent k starts whole l m none = whole_before gone later sent k starts whole l m none
whole_before gone (leaves j answer ∷ later) sent k starts whole l m none = whole_before gone later sent k starts whole l m none
whole_before gone (delivers j now ∷ later) sent k starts whole l m none = whole_before gone later sent k starts whole l m none
whole_before gone (pops now ∷ later) sent k starts whole l m none = whole_before gone later sent k starts whole l m none
whole_before gone (ends ∷ later) sent k starts whole l m none = whole_before gone later sent k starts whole l m none

-- of the starts those that were left out are the first datagrams of the samples that were
firsts_are : (gone : List ℕ) (all_events : List Event) (sent : ℕ) (starts : List ℕ) → firsts_in gone sent (keep (λ (k : ℕ). is_in k gone) starts) all_events ≡ keep (λ (k : ℕ). is_in k gone) (starts_in sent starts all_events)
firsts_are gone [] sent starts = refl
firsts_are gone (sends i entry ∷ later) sent starts =
    ap (λ (ks : List ℕ). firsts_in gone (sent + count_of entry) ks later) (by (ltb 0 (count_of entry)) (is_in sent gone) refl)
    ∙ firsts_are gone later (sent + count_of entry) (with_start sent (count_of entry) starts)
  where
    by : (a b : Bool) → is_in sent gone ≡ b
        → cond (a && is_in sent gone) (sent ∷ keep (λ (k : ℕ). is_in k gone) starts) (keep (λ (k : ℕ). is_in k gone) starts) ≡ keep (λ (k : ℕ). is_in k gone) (cond a (sent ∷ starts) starts)
    by true b e = refl
    by false b e = refl
firsts_are gone (forwards k answer ∷ later) sent starts = firsts_are gone later sent starts
firsts_are gone (leaves k answer ∷ later) sent starts = firsts_are gone later sent starts
firsts_are gone (delivers j now ∷ later) sent starts = firsts_are gone later sent starts
firsts_are gone (pops now ∷ later) sent starts = firsts_are gone later sent starts
firsts_are gone (ends ∷ later) sent starts = firsts_are gone later sent starts

-- between two indices there are at most as many starts as indices
between : (starts : List ℕ) (a n : ℕ) → Falls starts → (below a starts ≤ below (a + n) starts) × (below (a + n) starts ≤ below a starts + n)
between starts a zero falls =
    let here : below (a + 0) starts ≡ below a starts = ap (λ (m : ℕ). below m starts) (omega arith) in
    (omega (arith, here), omega (arith, here))
between starts a (suc n) falls = by (is_in (a + n) starts) refl (between starts a n falls)
  where
    here : below (a + suc n) starts ≡ below (a + n + 1) starts
    here = ap (λ (m : ℕ). below m starts) (omega arith)

    by : (b : Bool) → is_in (a + n) starts ≡ b → (below a starts ≤ below (a + n) starts) × (below (a + n) starts ≤ below a starts + n)
        → (below a starts ≤ below (a + suc n) starts) × (below (a + suc n) starts ≤ below a starts + suc n)
    by true e rest =
        let next : below (a + n + 1) starts ≡ suc (below (a + n) starts) = below_next starts (a + n) falls ∙ ap (λ (b : Bool). cond b (suc (below (a + n) starts)) (below (a + n) starts)) e in
        (omega (arith, here, next, rest.0), omega (arith, here, next, rest.1))
    by false e rest =
        let next : below (a + n + 1) starts ≡ below (a + n) starts = below_next starts (a + n) falls ∙ ap (λ (b : Bool). cond b (suc (below (a + n) starts)) (below (a + n) starts)) e in
        (omega (arith, here, next, rest.0), omega (arith, here, next, rest.1))

-- The pictures that closed are those of the starts that were left out

module _ (first : ℕ) (starts : List ℕ) (bound : ℕ) (falls : Falls starts) (some : (k : ℕ) → k < bound → 1 ≤ below (k + 1) starts) where
  ids_differ : (a b : ℕ) → 1 ≤ a → a < b → b < a + 32768 → (first + (a - 1)) % 32768 ≡ (first + (b - 1)) % 32768 → ⊥
  ids_differ a b l m n e = omega (arith, l, m, n, e)

  -- the first datagram of all is a start
  at_least : (k : ℕ) → k < bound → is_in k starts ≡ false → 1 ≤ k
  at_least zero low none =
      let count : 1 ≤ below (0 + 1) starts = some 0 low in
      let zero_is : below (0 + 1) starts ≡ below 0 starts = below_next starts 0 falls ∙ ap (λ (b : Bool). cond b (suc (below 0 starts)) (below 0 starts)) none in
      absurd (omega (arith, count, zero_is, low_below 0 starts falls))
  at_least (suc k) low none = omega arith

  -- one datagram that was left out
  closes_start : (high k : ℕ) (gone : List ℕ) → k < bound → high < k → k < high + 32768 → AllBelow (suc high) gone → (is_in k starts ≡ false → is_in (k - 1) gone ≡ true)
      → (is_in high gone && eqb (id_at first starts high) (id_at first starts k)) ≡ not (is_in k starts)
  closes_start high k gone low up near under before = by (is_in k starts) refl
    where
      next : below (k + 1) starts ≡ cond (is_in k starts) (suc (below k starts)) (below k starts)
      next = below_next starts k falls

      by : (b : Bool) → is_in k starts ≡ b → (is_in high gone && eqb (id_at first starts high) (id_at first starts k)) ≡ not (is_in k starts)
      by true e =
          let is : below (k + 1) starts ≡ suc (below k starts) = next ∙ ap (λ (b : Bool). cond b (suc (below k starts)) (below k starts)) e in
          let range = between starts (high + 1) (k - (high + 1)) falls in
          let same_k : below (high + 1 + (k - (high + 1))) starts ≡ below k starts = ap (λ (m : ℕ). below m starts) (omega (arith, up)) in
          let differ : eqb (id_at first starts high) (id_at first starts k) ≡ false =
          ne_eqb (id_at first starts high) (id_at first starts k)
          (λ q. ids_differ (below (high + 1) starts) (below (k + 1) starts) (some high (omega (arith, low, up))) (omega (arith, is, same_k, range.0)) (omega (arith, is, same_k, range.1, up, near)) q) in
          ap (λ (b : Bool). is_in high gone && b) differ ∙ (and_false (is_in high gone) ∙ sym (ap not e))
      by false e =
          let one : 1 ≤ k = at_least k low e in
          let there : is_in (k - 1) gone ≡ true = before e in
          let last : high ≡ k - 1 = omega (arith, up, low_in (k - 1) (suc high) gone under there, one) in
          let here : is_in high gone ≡ true = ap (λ (n : ℕ). is_in n gone) last ∙ there in
          let is : below (k + 1) starts ≡ below k starts = next ∙ ap (λ (b : Bool). cond b (suc (below k starts)) (below k starts)) e in
          let same_below : below (high + 1) starts ≡ below (k + 1) starts = ap (λ (m : ℕ). below m starts) (omega (arith, last, one)) ∙ sym is in
          let equal : eqb (id_at first starts high) (id_at first starts k) ≡ true = eq-eqb (id_at first starts high) (id_at first starts k) (ap (λ (m : ℕ). (first + (m - 1)) % 32768) same_below) in
          ap (λ (b : Bool). b && eqb (id_at first starts high) (id_at first starts k)) here ∙ (equal ∙ sym (ap not e))

  tracks_are : (gone highs pictures : List ℕ) → Tracks (id_at first starts) gone highs pictures → Falls gone → AllBelow bound gone
      → ((k : ℕ) → is_in k gone ≡ true → is_in k starts ≡ false → is_in (k - 1) gone ≡ true) → pictures ≡ keep (λ (k : ℕ). is_in k starts) gone
  tracks_are [] [] pictures tracks falling under before = tracks
  tracks_are [] (high ∷ highs) pictures tracks falling under before = absurd tracks
  tracks_are (k ∷ gone) [] pictures tracks falling under before = absurd tracks
  tracks_are (k ∷ gone) (high ∷ highs) pictures tracks falling under before =
      let rest : tracks.0 ≡ keep (λ (j : ℕ). is_in j starts) gone = tracks_are gone highs tracks.0 tracks.1 falling.1 under.1 (λ j there none. lower j there (before j (more_in j there) none)) in
      let closes = closes_start high k gone under.0 tracks.2 tracks.3 tracks.4 (λ none. lower_k (at_least k under.0 none) (before k (in_first k gone) none)) in
      tracks.5 ∙ (ap (λ (b : Bool). cond b tracks.0 (k ∷ tracks.0)) closes ∙ (swap (is_in k starts) ∙ ap (λ (zs : List ℕ). cond (is_in k starts) (k ∷ zs) zs) rest))
    where
      or_true : (b : Bool) → (b || true) ≡ true
      or_true true = refl
      or_true false = refl

      more_in : (j : ℕ) → is_in j gone ≡ true → is_in j (k ∷ gone) ≡ true
      more_in j there = ap (λ (b : Bool). eqb k j || b) there ∙ or_true (eqb k j)

      lower : (j : ℕ) → is_in j gone ≡ true → is_in (j - 1) (k ∷ gone) ≡ true → is_in (j - 1) gone ≡ true
      lower j there one = sym (in_more (j - 1) k gone (λ q. omega (arith, q, low_in j k gone falling.0 there))) ∙ one

      lower_k : 1 ≤ k → is_in (k - 1) (k ∷ gone) ≡ true → is_in (k - 1) gone ≡ true
      lower_k l one = sym (in_more (k - 1) k gone (λ q. omega (arith, q, l))) ∙ one

      swap : (b : Bool) → cond (not b) tracks.0 (k ∷ tracks.0) ≡ cond b (k ∷ tracks.0) tracks.0
      swap true = refl
      swap false = refl

-- for a whole run
pub pictures_are : (first : ℕ) (gone highs pictures : List ℕ) (all_events : List Event) (packetizer : PacketizerState) (ds : List (List ℕ)) → Frames first (starts_in 0 [] all_events) packetizer ds
    → length ds ≡ total_in 0 all_events → AreWhole gone 0 all_events → Falls gone → AllBelow (length ds) gone → Tracks (id_at first (starts_in 0 [] all_events)) gone highs pictures
    → pictures ≡ firsts_in gone 0 [] all_events
pictures_are first gone highs pictures all_events packetizer ds frames total whole falls under tracks =
    let starts : List ℕ = starts_in 0 [] all_events in
    let here : pictures ≡ keep (λ (k : ℕ). is_in k starts) gone =
    tracks_are first starts (length ds) frames.falls frames.some gone highs pictures tracks falls under
    (λ k there none. sym (whole_before gone all_events 0 k [] whole (omega arith) (omega (arith, total, low_in k (length ds) gone under there)) none) ∙ there) in
    let equal : (n : ℕ) → is_in n (keep (λ (k : ℕ). is_in k starts) gone) ≡ is_in n (keep (λ (k : ℕ). is_in k gone) starts) =
    λ n. keep_in (λ (k : ℕ). is_in k starts) n gone ∙ (and_swap (is_in n gone) (is_in n starts) ∙ sym (keep_in (λ (k : ℕ). is_in k gone) n starts)) in
    here
    ∙ (falls_same (keep (λ (k : ℕ). is_in k starts) gone) (keep (λ (k : ℕ). is_in k gone) starts) (keep_falls (λ (k : ℕ). is_in k starts) gone falls) (keep_falls (λ (k : ℕ). is_in k gone) starts frames.falls) equal
    ∙ sym (firsts_are gone all_events 0 []))
  where
    and_swap : (a b : Bool) → (a && b) ≡ (b && a)
    and_swap true true = refl
    and_swap true false = refl
    and_swap false true = refl
    and_swap false false = refl
