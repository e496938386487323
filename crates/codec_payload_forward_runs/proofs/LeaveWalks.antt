-- What happens in a run whose forwarder leaves whole frames out, from the first step to the last.
use Rattle.std.proofs.Common.{◌≡◌, ◌∙◌, refl, sym, ap, subst, ℕ, zero, suc, ◌+◌, ◌%◌, ◌^◌, ◌<◌, List, [], ◌∷◌, ◌++◌, append-nil, Bool, true, false, Option, Some, None, MatchOption, Result, Ok, length, map, arith, length-append}
use Rattle.std.specs.Prelude.{slice_get, slice_index_or}
use Rattle.std.proofs.lemmas.Option.{same_Some, slice_get_within}
use Rattle.codec_payload_base.specs.declared.error.PacketError.{PacketError}
use Rattle.codec_payload_base.specs.declared.wire.Codec.{Codec}
use Rattle.codec_payload_base.specs.declared.wire.Codec.TheVariants as codecs
use Rattle.codec_payload_base.specs.declared.wire.Ticks.{Ticks}
use Rattle.codec_payload_codec.specs.Packetizers.{PacketizerState, PacketizerStep, is_built_in}
use Rattle.codec_payload_payloader.specs.Sending.{Sample}
use Rattle.codec_payload_receiver.specs.Sessions.{Session}
use Rattle.codec_payload_rtp.specs.RtpPackets.{Packet}
use Rattle.codec_payload_rtp.specs.RtpReading.{rtp_at}
use Rattle.codec_payload_rtp.specs.declared.rtp.RtpError.{RtpError}
use Rattle.codec_payload_sending.specs.Senders.{Sending, Sends}
use Rattle.codec_payload_sending_forward.specs.Forwarding.{Forward, closing_id, payload_for}
use Rattle.codec_payload_sending_forward.specs.Numbers.{Falls}
use Rattle.codec_payload_sending_forward.specs.declared.forwarder.Forwarded.{Forwarded}
use Rattle.codec_payload_sending_forward.specs.declared.forwarder.ForwardSettings.{ForwardSettings}
use Rattle.codec_payload_sending_forward.specs.declared.ids.IdOffsets.{IdOffsets}
use Rattle.codec_payload_datagram_runs.proofs.StepLemmas.{get_append}
use Rattle.codec_payload_datagram_runs.specs.WireRuns.{Delivers, Receipt, SendsOrRefuses, Wire, sent_sample}
use Rattle.codec_payload_datagram_runs.specs.declared.run.DatagramStep.{DatagramStep}
use Rattle.codec_payload_datagram_runs.specs.declared.run.DatagramStep.TheVariants as seen
use Rattle.codec_payload_datagram_runs.specs.declared.run.SentSample.{SentSample}
use Rattle.codec_payload_forward_runs.proofs.KeptPayloads.{IsKept}
use Rattle.codec_payload_forward_runs.proofs.LeaveCourses.{Beside, Leads, deliver_leads, end_leads, places_append, pop_leads, same_leads, send_leads, seen_by, wrote_more}
use Rattle.codec_payload_forward_runs.proofs.LeaveEvents.{DoesDeliver, DoesEvent, DoesForward, DoesLeave, DoesSend, Happens}
use Rattle.codec_payload_forward_runs.proofs.LeaveIds.{is_moved}
use Rattle.codec_payload_forward_runs.proofs.LeaveNumbers.{Agrees, AreNear, Holds, Stage, Turned, Wrote, forward_turn, leave_turn}
use Rattle.codec_payload_forward_runs.proofs.LeaveSenders.{IsBeside, own_stays}
use Rattle.codec_payload_forward_runs.proofs.SourceLemmas.{IsDatagramOf, IsSource, of_at, source_after}
use Rattle.codec_payload_forward_runs.specs.ForwardReleases.{forwarded_by}
use Rattle.codec_payload_forward_runs.specs.ForwardRuns.{DoesPlain, Hops, written_by}
use Rattle.codec_payload_forward_runs.specs.LeaveReleases.{AreWhole, Event, NoneFilled, Offsets, came, came_by, closed, count_of, delivers, ends, fills, forwards, gone_by, gone_in, kept_forwarded, kept_sends, kept_steps, leaves, leaves_sample, place_of, pops, sends, sends_no_ids}
use Rattle.codec_payload_forward_runs.specs.LeaveRuns.{filled_by}

-- Numbers of datagrams

-- the datagrams have consecutive numbers from this one on
abbrev pub HaveNumbers : ℕ → List (List ℕ) → Type 0
HaveNumbers n [] = Unit {0}
HaveNumbers n (d ∷ ds) = ((p : Packet) → rtp_at d ≡ Ok p → p.header.sequence_number ≡ n % 65536) × HaveNumbers (n + 1) ds

numbers_append : (n : ℕ) (ds es : List (List ℕ)) → HaveNumbers n ds → HaveNumbers (n + length ds) es → HaveNumbers n (ds ++ es)
numbers_append n [] es here more = subst (λ (m : ℕ). HaveNumbers m es) (omega arith) more
numbers_append n (d ∷ ds) es here more = (here.0, numbers_append (n + 1) ds es here.1 (subst (λ (m : ℕ). HaveNumbers m es) (omega arith) more))

numbers_each : (n : ℕ) (ds : List (List ℕ)) → ((i : ℕ) → i < length ds → (p : Packet) → rtp_at (slice_index_or ds i []) ≡ Ok p → p.header.sequence_number ≡ (n + i) % 65536) → HaveNumbers n ds
numbers_each n [] each = tt
numbers_each n (d ∷ ds) each = (
  λ p is. each 0 (omega arith) p is ∙ omega arith,
  numbers_each (n + 1) ds (λ i l p is. each (suc i) (omega (arith, l)) p is ∙ omega arith),
)

number_at : (n : ℕ) (ds : List (List ℕ)) (k : ℕ) (d : List ℕ) (p : Packet) → HaveNumbers n ds → slice_get ds k ≡ Some d → rtp_at d ≡ Ok p → p.header.sequence_number ≡ (n + k) % 65536
number_at n [] k d p have there is = absurd (cc)
number_at n (x ∷ ds) zero d p have there is = have.0 p (subst (λ (y : List ℕ). rtp_at y ≡ Ok p) (sym (same_Some x d there)) is) ∙ omega arith
number_at n (x ∷ ds) (suc k) d p have there is = number_at (n + 1) ds k d p have.1 there is ∙ omega arith

same_packet : (p q : Packet) → ◌≡◌ {A = Result Packet RtpError} (Ok p) (Ok q) → p ≡ q
same_packet p q same = cc

sent_numbers : (sample : Sample) (s t : Sending) (low : ℕ) → s.stream.number % 65536 ≡ low % 65536 → Sends s (sent_sample sample) t → HaveNumbers low t.datagrams
sent_numbers sample s t low is made =
    numbers_each low t.datagrams (λ i l p reads.
    let within : i < length made.payloads = omega (arith, made.sent.0, l) in
    let at = made.sent.1 i within in
    ap (λ (q : Packet). q.header.sequence_number) (same_packet p _ (sym reads ∙ at.reads)) ∙ omega (arith, is))

-- Payloads that a forwarder does not change

pub stays_same : (codec : Codec) (o : IdOffsets) (payload : List ℕ) → is_moved codec ≡ false → IsKept codec payload → payload_for codec o payload ≡ payload
stays_same codecs.Vp8 o payload fixed kept = kept o
stays_same codecs.Vp9 o payload fixed kept = absurd (cc)
stays_same codecs.Opus o payload fixed kept = refl
stays_same codecs.PCMU o payload fixed kept = refl
stays_same codecs.PCMA o payload fixed kept = refl
stays_same codecs.G722 o payload fixed kept = refl
stays_same codecs.CN o payload fixed kept = refl
stays_same codecs.AmrWb o payload fixed kept = refl
stays_same codecs.H264 o payload fixed kept = refl
stays_same codecs.H265 o payload fixed kept = refl
stays_same codecs.H266 o payload fixed kept = refl
stays_same codecs.Av1 o payload fixed kept = refl
stays_same codecs.Null o payload fixed kept = refl
stays_same codecs.Tele o payload fixed kept = refl
stays_same codecs.Rtx o payload fixed kept = refl
stays_same codecs.Red o payload fixed kept = refl
stays_same codecs.Unknown o payload fixed kept = refl

-- Whole runs

module _ (ssrc rate low : ℕ) (codec : Codec) (fixed : is_moved codec ≡ false) (steady : Bool) (id_of : ℕ → ℕ) (packetizer : PacketizerState) (no_ids : is_built_in packetizer ≡ true → sends_no_ids packetizer ≡ true)
    (samples : List Sample) where
  -- a state of the run
  pub record IsBase (s : Hops) : Type 0 where
    pub source : IsSource ssrc rate codec true steady s.wire.sending s.wire.datagrams
    pub own : is_built_in packetizer ≡ true → s.wire.sending.packetizer ≡ packetizer
    pub next : s.wire.sending.stream.number % 65536 ≡ (low + length s.wire.datagrams) % 65536
    pub numbers : HaveNumbers low s.wire.datagrams
    pub few : length s.wire.datagrams < 2 ^ 63
    pub codec_is : s.forwarder.settings.codec ≡ codec

  -- the receiver's steps leave it
  base_same : (s mid : Hops) → IsBase s → mid.wire.sending ≡ s.wire.sending → mid.wire.datagrams ≡ s.wire.datagrams → mid.forwarder.settings ≡ s.forwarder.settings → IsBase mid
  base_same s mid base sending datagrams settings = record {
    source = subst (λ (ds : List (List ℕ)). IsSource ssrc rate codec true steady mid.wire.sending ds) (sym datagrams)
        (subst (λ (x : Sending). IsSource ssrc rate codec true steady x s.wire.datagrams) (sym sending) base.source);
    own = λ built. ap (λ (x : Sending). x.packetizer) sending ∙ base.own built;
    next = ap (λ (x : Sending). x.stream.number % 65536) sending ∙ (base.next ∙ ap (λ (ds : List (List ℕ)). (low + length ds) % 65536) (sym datagrams));
    numbers = subst (HaveNumbers low) (sym datagrams) base.numbers;
    few = subst (λ (ds : List (List ℕ)). length ds < 2 ^ 63) (sym datagrams) base.few;
    codec_is = ap (λ (x : ForwardSettings). x.codec) settings ∙ base.codec_is;
  }

  sent_next : (sample : Sample) (s t : Sending) (fault : Option PacketError) (before : ℕ) → s.stream.number % 65536 ≡ (low + before) % 65536 → SendsOrRefuses (sent_sample sample) s fault t
      → (t.stream.number % 65536 ≡ (low + (before + length t.datagrams)) % 65536) × HaveNumbers (low + before) t.datagrams
  sent_next sample s t None before is made = (
    ap (λ (x : Sending). x.stream.number % 65536) made.left ∙ omega (arith, is, made.sent.0),
    sent_numbers sample s t (low + before) is made,
  )
  sent_next sample s t (Some fault) before is refuses =
      let nothing : t.datagrams ≡ [] = ap (λ (x : Sending). x.datagrams) refuses.1.left in
      (ap (λ (x : Sending). x.stream.number % 65536) refuses.1.left ∙ omega (arith, is, ap length nothing), subst (HaveNumbers (low + before)) (sym nothing) tt)

  base_sent : (i : ℕ) (o : Option Sample) (entry : Option SentSample) (s mid : Hops) → slice_get samples i ≡ o → IsBase s → DoesSend o entry s mid → IsBase mid
  base_sent i None None s mid is base same = subst IsBase (sym same) base
  base_sent i None (Some entry) s mid is base does = absurd does
  base_sent i (Some sample) None s mid is base does = absurd does
  base_sent i (Some sample) (Some entry) s mid is base does =
      let next = sent_next sample s.wire.sending mid.wire.sending entry.fault (length s.wire.datagrams) base.next does.0.sends in
      let all : mid.wire.datagrams ≡ s.wire.datagrams ++ mid.wire.sending.datagrams = does.0.gained in
      let wire : mid.wire ≡ record s.wire { sending = mid.wire.sending; datagrams = mid.wire.datagrams; sends = s.wire.sends ++ entry ∷ [] } = ap (λ (x : Hops). x.wire) does.1 in
      record {
        source = source_after ssrc rate codec true steady samples i s.wire mid.wire base.source (rw is (entry, does.0, wire));
        own = λ built. own_stays packetizer built (no_ids built) sample s.wire.sending mid.wire.sending entry.fault (base.own built) does.0.sends;
        next = next.0 ∙ ap (λ (n : ℕ). (low + n) % 65536) (sym (ap length all ∙ length-append s.wire.datagrams mid.wire.sending.datagrams));
        numbers = subst (HaveNumbers low) (sym all) (numbers_append low s.wire.datagrams mid.wire.sending.datagrams base.numbers next.1);
        few = does.0.few;
        codec_is = ap (λ (x : Hops). x.forwarder.settings.codec) does.1 ∙ base.codec_is;
      }

  -- A whole run

  -- what is known of the forwarder after the run by which these packets are known
  pub record IsFinal (o : Offsets) (e : Forward) (all : List ℕ) : Type 0 where
    pub fits_type : e.settings.payload_type < 128
    pub fits_ssrc : e.settings.ssrc < 2 ^ 32
    pub some : 0 < rate
    pub falls : Falls all
    pub plain : is_built_in packetizer ≡ true → (mtu : ℕ) (frame : List ℕ) (payloads : List (List ℕ)) → PacketizerStep packetizer mtu frame (Ok payloads) packetizer
        → (i : ℕ) → i < length payloads → (x : IdOffsets) → payload_for e.settings.codec x (slice_index_or payloads i []) ≡ slice_index_or payloads i []

  abbrev LeadsTo : (o : Offsets) (e : Forward) (all : List ℕ) → IsFinal o e all → List Event → List ℕ → Hops → Hops → Type 0
  LeadsTo o e all final later ks s t =
      (v : Sending) (entries : List SentSample) → Beside e final.fits_type final.fits_ssrc rate final.some o packetizer no_ids final.plain all final.falls samples v s
      → Leads e final.fits_type final.fits_ssrc rate final.some o packetizer no_ids final.plain all final.falls samples
      (kept_steps all (length s.wire.datagrams) (map (place_of all) ks) later) (kept_sends all (length s.wire.datagrams) later) s t v entries

  pub record Walks (later : List Event) (s t : Hops) (st : Stage) (gone ks : List ℕ) : Type 0 where
    pub end : Stage
    pub holds : Holds ssrc low steady id_of end t.forwarder (gone_in gone later)
    pub settings : t.forwarder.settings ≡ s.forwarder.settings
    pub outs : List ℕ
    pub wrote : Wrote end t.forwarder (gone_in gone later) t.wire.datagrams t.written outs
    pub outs_are : (all : List ℕ) → map (place_of all) outs ≡ kept_forwarded all (map (place_of all) ks) later
    pub course : (o : Offsets) (e : Forward) (all : List ℕ) (final : IsFinal o e all) → Agrees o e all end t.forwarder (gone_in gone later) → AreWhole all (length s.wire.datagrams) later
        → Agrees o e all st s.forwarder gone × LeadsTo o e all final later ks s t

  -- One event: what is known after it is known before it, and its steps lead to those after it
  pub record OneWalk (event : Event) (s mid : Hops) (st next : Stage) (gone further ks js : List ℕ) : Type 0 where
    pub settings : mid.forwarder.settings ≡ s.forwarder.settings
    pub outs_are : (all : List ℕ) (later : List Event) → kept_forwarded all (map (place_of all) js) later ≡ kept_forwarded all (map (place_of all) ks) (event ∷ later)
    pub whole : (all : List ℕ) (later : List Event) → AreWhole all (length s.wire.datagrams) (event ∷ later) → AreWhole all (length mid.wire.datagrams) later
    pub known : (o : Offsets) (e : Forward) (all : List ℕ) → Agrees o e all next mid.forwarder further → Agrees o e all st s.forwarder gone
    pub leads : (o : Offsets) (e : Forward) (all : List ℕ) (final : IsFinal o e all) (later : List Event) (t : Hops) → Agrees o e all st s.forwarder gone
        → AreWhole all (length s.wire.datagrams) (event ∷ later) → LeadsTo o e all final later js mid t → LeadsTo o e all final (event ∷ later) ks s t

  first_walks : (event : Event) (later : List Event) (s mid t : Hops) (st next : Stage) (gone further ks js : List ℕ) → gone_in gone (event ∷ later) ≡ gone_in further later
      → OneWalk event s mid st next gone further ks js → Walks later mid t next further js → Walks (event ∷ later) s t st gone ks
  first_walks event later s mid t st next gone further ks js gone_is one rest = record {
    end = rest.end;
    holds = subst (λ (xs : List ℕ). Holds ssrc low steady id_of rest.end t.forwarder xs) (sym gone_is) rest.holds;
    settings = rest.settings ∙ one.settings;
    outs = rest.outs;
    wrote = subst (λ (xs : List ℕ). Wrote rest.end t.forwarder xs t.wire.datagrams t.written rest.outs) (sym gone_is) rest.wrote;
    outs_are = λ all. rest.outs_are all ∙ one.outs_are all later;
    course = λ o e all final agrees whole.
        let at_end : Agrees o e all rest.end t.forwarder (gone_in further later) = subst (λ (xs : List ℕ). Agrees o e all rest.end t.forwarder xs) gone_is agrees in
        let c = rest.course o e all final at_end (one.whole all later whole) in
        let here : Agrees o e all st s.forwarder gone = one.known o e all c.0 in
        (here, one.leads o e all final later t here whole c.1);
  }

  -- A sample

  entries_count : (entry : Option SentSample) (o : Option Sample) (s mid : Hops) → DoesSend o entry s mid → length mid.wire.datagrams ≡ length s.wire.datagrams + count_of entry
  entries_count None None s mid same = ap (λ (x : Hops). length x.wire.datagrams) same ∙ omega arith
  entries_count (Some entry) None s mid does = absurd does
  entries_count None (Some sample) s mid does = absurd does
  entries_count (Some entry) (Some sample) s mid does = ap length does.0.gained ∙ (length-append s.wire.datagrams mid.wire.sending.datagrams ∙ ap (λ (n : ℕ). length s.wire.datagrams + n) (sym does.0.count))

  send_forwarder : (entry : Option SentSample) (o : Option Sample) (s mid : Hops) → DoesSend o entry s mid → (mid.forwarder ≡ s.forwarder) × (mid.written ≡ s.written)
  send_forwarder None None s mid same = (ap (λ (x : Hops). x.forwarder) same, ap (λ (x : Hops). x.written) same)
  send_forwarder (Some entry) None s mid does = absurd does
  send_forwarder None (Some sample) s mid does = absurd does
  send_forwarder (Some entry) (Some sample) s mid does = (ap (λ (x : Hops). x.forwarder) does.1, ap (λ (x : Hops). x.written) does.1)

  sends_walk : (i : ℕ) (entry : Option SentSample) (s mid : Hops) (st : Stage) (gone ks : List ℕ) → IsBase s → DoesSend (slice_get samples i) entry s mid → OneWalk (sends i entry) s mid st st gone gone ks ks
  sends_walk i entry s mid st gone ks base does =
      let count : length mid.wire.datagrams ≡ length s.wire.datagrams + count_of entry = entries_count entry (slice_get samples i) s mid does in
      let stays = send_forwarder entry (slice_get samples i) s mid does in
      record {
        settings = ap (λ (x : Forward). x.settings) stays.0;
        outs_are = λ all later. refl;
        whole = λ all later whole. subst (λ (n : ℕ). AreWhole all n later) (sym count) whole.1;
        known = λ o e all agrees. subst (λ (x : Forward). Agrees o e all st x gone) stays.0 agrees;
        leads = λ o e all final later t agrees whole rest v entries beside.
            send_leads e final.fits_type final.fits_ssrc rate final.some o packetizer no_ids final.plain all final.falls samples i (slice_get samples i) entry
            (leaves_sample all (length s.wire.datagrams) (count_of entry)) s mid t v entries
            (kept_steps all (length s.wire.datagrams + count_of entry) (map (place_of all) ks) later) (kept_sends all (length s.wire.datagrams + count_of entry) later)
            refl refl whole.0 base.own base.source.clock beside does
            (λ w es next.
            subst (λ (n : ℕ).
            Leads e final.fits_type final.fits_ssrc rate final.some o packetizer no_ids final.plain all final.falls samples (kept_steps all n (map (place_of all) ks) later) (kept_sends all n later) mid t w es)
            count (rest w es next));
      }

  -- A datagram that comes to the forwarder

  -- the receiver sees nothing of it
  quiet_leads : (o : Offsets) (e : Forward) (all : List ℕ) (final : IsFinal o e all) (all_steps : List DatagramStep) (entries more : List SentSample) (s mid t : Hops) (v : Sending) → mid.wire ≡ s.wire
      → Beside e final.fits_type final.fits_ssrc rate final.some o packetizer no_ids final.plain all final.falls samples v s
      → (Beside e final.fits_type final.fits_ssrc rate final.some o packetizer no_ids final.plain all final.falls samples v mid
      → Leads e final.fits_type final.fits_ssrc rate final.some o packetizer no_ids final.plain all final.falls samples all_steps more mid t v entries)
      → Leads e final.fits_type final.fits_ssrc rate final.some o packetizer no_ids final.plain all final.falls samples all_steps more s t v entries
  quiet_leads o e all final all_steps entries more s mid t v wire beside rest =
      same_leads e final.fits_type final.fits_ssrc rate final.some o packetizer no_ids final.plain all final.falls samples all_steps more s mid t v entries
      (ap (λ (w : Wire). record w { sending = v; datagrams = closed e o all 0 o.number w.datagrams; sends = entries }) wire)
      (rest (subst (λ (w : Wire). IsBeside e final.fits_type final.fits_ssrc rate final.some o packetizer no_ids final.plain all v w.sending w.datagrams) (sym wire) beside))

  forwards_walk : (k : ℕ) (answer : Forwarded) (s mid : Hops) (st next : Stage) (gone ks : List ℕ) → mid.wire ≡ s.wire → mid.forwarder.settings ≡ s.forwarder.settings
      → ((o : Offsets) (e : Forward) (all : List ℕ) → Agrees o e all next mid.forwarder gone → Agrees o e all st s.forwarder gone)
      → OneWalk (forwards k answer) s mid st next gone gone ks (ks ++ forwarded_by answer k)
  forwards_walk k answer s mid st next gone ks wire settings known = record {
    settings = settings;
    outs_are = λ all later. ap (λ (js : List ℕ). kept_forwarded all js later) (places_append all answer k ks);
    whole = λ all later whole. subst (λ (w : Wire). AreWhole all (length w.datagrams) later) (sym wire) whole;
    known = known;
    leads = λ o e all final later t agrees whole rest v entries beside.
        quiet_leads o e all final (kept_steps all (length s.wire.datagrams) (map (place_of all) ks ++ forwarded_by answer (place_of all k)) later) entries (kept_sends all (length s.wire.datagrams) later) s mid t v wire beside
        (λ next_beside.
        subst (λ (js : List ℕ).
        Leads e final.fits_type final.fits_ssrc rate final.some o packetizer no_ids final.plain all final.falls samples (kept_steps all (length s.wire.datagrams) js later) (kept_sends all (length s.wire.datagrams) later) mid t v entries)
        (places_append all answer k ks)
        (subst (λ (w : Wire).
        Leads e final.fits_type final.fits_ssrc rate final.some o packetizer no_ids final.plain all final.falls samples (kept_steps all (length w.datagrams) (map (place_of all) (ks ++ forwarded_by answer k)) later)
        (kept_sends all (length w.datagrams) later) mid t v entries)
        wire (rest v entries next_beside)));
  }

  leaves_walk : (k : ℕ) (answer : Forwarded) (s mid : Hops) (st next : Stage) (gone ks : List ℕ) → mid.wire ≡ s.wire → mid.forwarder.settings ≡ s.forwarder.settings
      → ((o : Offsets) (e : Forward) (all : List ℕ) → Agrees o e all next mid.forwarder (gone_by answer k gone) → Agrees o e all st s.forwarder gone)
      → OneWalk (leaves k answer) s mid st next gone (gone_by answer k gone) ks ks
  leaves_walk k answer s mid st next gone ks wire settings known = record {
    settings = settings;
    outs_are = λ all later. refl;
    whole = λ all later whole. subst (λ (w : Wire). AreWhole all (length w.datagrams) later) (sym wire) whole;
    known = known;
    leads = λ o e all final later t agrees whole rest v entries beside.
        quiet_leads o e all final (kept_steps all (length s.wire.datagrams) (map (place_of all) ks) later) entries (kept_sends all (length s.wire.datagrams) later) s mid t v wire beside
        (λ next_beside.
        subst (λ (w : Wire).
        Leads e final.fits_type final.fits_ssrc rate final.some o packetizer no_ids final.plain all final.falls samples (kept_steps all (length w.datagrams) (map (place_of all) ks) later)
        (kept_sends all (length w.datagrams) later) mid t v entries)
        wire (rest v entries next_beside));
  }

  -- A step of the receiver

  -- what it leaves
  pub record IsQuiet (s mid : Hops) : Type 0 where
    pub forwarder : mid.forwarder ≡ s.forwarder
    pub sending : mid.wire.sending ≡ s.wire.sending
    pub datagrams : mid.wire.datagrams ≡ s.wire.datagrams
    pub written : mid.written ≡ s.written

  quiet_beside : (o : Offsets) (e : Forward) (all : List ℕ) (final : IsFinal o e all) (s mid : Hops) (v : Sending) → IsQuiet s mid
      → Beside e final.fits_type final.fits_ssrc rate final.some o packetizer no_ids final.plain all final.falls samples v s
      → Beside e final.fits_type final.fits_ssrc rate final.some o packetizer no_ids final.plain all final.falls samples v mid
  quiet_beside o e all final s mid v is beside =
      subst (λ (ds : List (List ℕ)). IsBeside e final.fits_type final.fits_ssrc rate final.some o packetizer no_ids final.plain all v mid.wire.sending ds) (sym is.datagrams)
      (subst (λ (x : Sending). IsBeside e final.fits_type final.fits_ssrc rate final.some o packetizer no_ids final.plain all v x s.wire.datagrams) (sym is.sending) beside)

  abbrev After : (o : Offsets) (e : Forward) (all : List ℕ) → IsFinal o e all → List Event → List ℕ → Hops → Hops → Hops → Sending → List SentSample → Type 0
  After o e all final later ks s mid t v entries =
      Leads e final.fits_type final.fits_ssrc rate final.some o packetizer no_ids final.plain all final.falls samples (kept_steps all (length s.wire.datagrams) (map (place_of all) ks) later)
      (kept_sends all (length s.wire.datagrams) later) mid t v entries

  quiet_after : (o : Offsets) (e : Forward) (all : List ℕ) (final : IsFinal o e all) (later : List Event) (ks : List ℕ) (s mid t : Hops) (v : Sending) (entries : List SentSample) → IsQuiet s mid
      → Beside e final.fits_type final.fits_ssrc rate final.some o packetizer no_ids final.plain all final.falls samples v s → LeadsTo o e all final later ks mid t → After o e all final later ks s mid t v entries
  quiet_after o e all final later ks s mid t v entries is beside rest =
      subst (λ (ds : List (List ℕ)).
      Leads e final.fits_type final.fits_ssrc rate final.some o packetizer no_ids final.plain all final.falls samples (kept_steps all (length ds) (map (place_of all) ks) later) (kept_sends all (length ds) later) mid t v entries)
      is.datagrams (rest v entries (quiet_beside o e all final s mid v is beside))

  pops_walk : (now : Ticks) (s mid : Hops) (st : Stage) (gone ks : List ℕ) → IsQuiet s mid → DoesPlain samples (seen.Pop now) s mid → OneWalk (pops now) s mid st st gone gone ks ks
  pops_walk now s mid st gone ks is does = record {
    settings = ap (λ (x : Forward). x.settings) is.forwarder;
    outs_are = λ all later. refl;
    whole = λ all later whole. subst (λ (ds : List (List ℕ)). AreWhole all (length ds) later) (sym is.datagrams) whole;
    known = λ o e all agrees. subst (λ (x : Forward). Agrees o e all st x gone) is.forwarder agrees;
    leads = λ o e all final later t agrees whole rest v entries beside.
        pop_leads e final.fits_type final.fits_ssrc rate final.some o packetizer no_ids final.plain all final.falls samples now (kept_steps all (length s.wire.datagrams) (map (place_of all) ks) later)
        (kept_sends all (length s.wire.datagrams) later) s mid t v entries does (quiet_after o e all final later ks s mid t v entries is beside rest);
  }

  ends_walk : (s mid : Hops) (st : Stage) (gone ks : List ℕ) → IsQuiet s mid → DoesPlain samples seen.Finish s mid → OneWalk ends s mid st st gone gone ks ks
  ends_walk s mid st gone ks is does = record {
    settings = ap (λ (x : Forward). x.settings) is.forwarder;
    outs_are = λ all later. refl;
    whole = λ all later whole. subst (λ (ds : List (List ℕ)). AreWhole all (length ds) later) (sym is.datagrams) whole;
    known = λ o e all agrees. subst (λ (x : Forward). Agrees o e all st x gone) is.forwarder agrees;
    leads = λ o e all final later t agrees whole rest v entries beside.
        end_leads e final.fits_type final.fits_ssrc rate final.some o packetizer no_ids final.plain all final.falls samples (kept_steps all (length s.wire.datagrams) (map (place_of all) ks) later)
        (kept_sends all (length s.wire.datagrams) later) s mid t v entries does (quiet_after o e all final later ks s mid t v entries is beside rest);
  }

  delivers_walk : (j : ℕ) (now : Ticks) (s mid : Hops) (st : Stage) (gone ks : List ℕ) → IsQuiet s mid → Wrote st s.forwarder gone s.wire.datagrams s.written ks → DoesDeliver j now s mid
      → OneWalk (delivers j now) s mid st st gone gone ks ks
  delivers_walk j now s mid st gone ks is wrote does = record {
    settings = ap (λ (x : Forward). x.settings) is.forwarder;
    outs_are = λ all later. refl;
    whole = λ all later whole. subst (λ (ds : List (List ℕ)). AreWhole all (length ds) later) (sym is.datagrams) whole;
    known = λ o e all agrees. subst (λ (x : Forward). Agrees o e all st x gone) is.forwarder agrees;
    leads = λ o e all final later t agrees whole rest v entries beside.
        deliver_leads e final.fits_type final.fits_ssrc rate final.some o packetizer no_ids final.plain all final.falls samples (slice_get s.written j) j now st gone ks
        (kept_steps all (length s.wire.datagrams) (map (place_of all) ks) later) (kept_sends all (length s.wire.datagrams) later) s mid t v entries refl agrees wrote does
        (quiet_after o e all final later ks s mid t v entries is beside rest);
  }

  -- What the steps of the receiver leave

  plain_quiet : (s mid : Hops) (wire : Wire) → mid ≡ record s { wire = wire } → wire.sending ≡ s.wire.sending → wire.datagrams ≡ s.wire.datagrams → IsQuiet s mid
  plain_quiet s mid wire is sending datagrams = record {
    forwarder = ap (λ (x : Hops). x.forwarder) is;
    sending = ap (λ (x : Hops). x.wire.sending) is ∙ sending;
    datagrams = ap (λ (x : Hops). x.wire.datagrams) is ∙ datagrams;
    written = ap (λ (x : Hops). x.written) is;
  }

  deliver_quiet : (o : Option (List ℕ)) (now : Ticks) (s mid : Hops)
      → MatchOption o (mid ≡ s) (λ bytes. (receipt : Receipt) × (session : Session) × Delivers now bytes s.wire.session receipt session
      × (mid ≡ record s { wire = record s.wire { session = session; receipts = s.wire.receipts ++ receipt ∷ [] } }))
      → IsQuiet s mid
  deliver_quiet None now s mid stays = plain_quiet s mid s.wire stays refl refl
  deliver_quiet (Some bytes) now s mid done = plain_quiet s mid _ done.3 refl refl

  -- the rest of a run after a step of the receiver
  quiet_wrote : (s mid : Hops) (st : Stage) (gone ks : List ℕ) → IsQuiet s mid → Wrote st s.forwarder gone s.wire.datagrams s.written ks → Wrote st mid.forwarder gone mid.wire.datagrams mid.written ks
  quiet_wrote s mid st gone ks is wrote =
      subst (λ (x : Forward). Wrote st x gone mid.wire.datagrams mid.written ks) (sym is.forwarder)
      (subst (λ (ds : List (List ℕ)). Wrote st s.forwarder gone ds mid.written ks) (sym is.datagrams)
      (subst (λ (bs : List (List ℕ)). Wrote st s.forwarder gone s.wire.datagrams bs ks) (sym is.written) wrote))

  quiet_base : (s mid : Hops) → IsQuiet s mid → IsBase s → IsBase mid
  quiet_base s mid is base = base_same s mid base is.sending is.datagrams (ap (λ (x : Forward). x.settings) is.forwarder)

  send_wrote : (entry : Option SentSample) (o : Option Sample) (s mid : Hops) (st : Stage) (gone ks : List ℕ) → DoesSend o entry s mid → Wrote st s.forwarder gone s.wire.datagrams s.written ks
      → Wrote st mid.forwarder gone mid.wire.datagrams mid.written ks
  send_wrote entry o s mid st gone ks does wrote =
      let stays = send_forwarder entry o s mid does in
      subst (λ (x : Forward). Wrote st x gone mid.wire.datagrams mid.written ks) (sym stays.0)
      (subst (λ (bs : List (List ℕ)). Wrote st s.forwarder gone mid.wire.datagrams bs ks) (sym stays.1) (by entry o does))
    where
      by : (entry : Option SentSample) (o : Option Sample) → DoesSend o entry s mid → Wrote st s.forwarder gone mid.wire.datagrams s.written ks
      by None None is = subst (λ (x : Hops). Wrote st s.forwarder gone x.wire.datagrams s.written ks) (sym is) wrote
      by (Some entry) None is = absurd is
      by None (Some sample) is = absurd is
      by (Some entry) (Some sample) is = subst (λ (ds : List (List ℕ)). Wrote st s.forwarder gone ds s.written ks) (sym is.0.gained) (wrote_more st s.forwarder gone s.wire.datagrams mid.wire.sending.datagrams s.written ks wrote)

  -- The forwarder turns

  pub record Comes (k : ℕ) (d : List ℕ) (s : Hops) : Type 0 where
    pub packet : Packet
    pub few : k < 2 ^ 63
    pub reads : rtp_at d ≡ Ok packet
    pub source : packet.header.ssrc ≡ ssrc
    pub number : packet.header.sequence_number ≡ (low + k) % 65536
    pub time : packet.header.timestamp < 4294967296
    pub kept : (s.forwarder.settings.codec ≡ codec) × (steady ≡ true → (o : IdOffsets) → payload_for s.forwarder.settings.codec o packet.payload ≡ packet.payload)

  comes : (k : ℕ) (d : List ℕ) (s : Hops) → IsBase s → slice_get s.wire.datagrams k ≡ Some d → Comes k d s
  comes k d s base there =
      let of : IsDatagramOf steady ssrc codec d = of_at steady ssrc codec s.wire.datagrams k d base.source.all there in
      record {
        packet = of.0;
        few = omega (arith, slice_get_within s.wire.datagrams k d there, base.few);
        reads = of.1;
        source = of.2.source;
        number = number_at low s.wire.datagrams k d of.0 base.numbers there of.1;
        time = of.2.time;
        kept = (
          base.codec_is,
          λ plain o. subst (λ (c : Codec). payload_for c o of.0.payload ≡ of.0.payload) (sym base.codec_is) (stays_same codec o of.0.payload fixed (of.2.kept plain)),
        );
      }

  forward_turned : (k : ℕ) (answer : Forwarded) (s mid : Hops) (st : Stage) (gone later : List ℕ) → IsBase s → (does : DoesForward k answer s mid) → Holds ssrc low steady id_of st s.forwarder gone
      → AreNear st (came_by answer k ++ later) → Turned ssrc low steady id_of codec fixed k does.datagram st s.forwarder gone later does.forwarder gone (written_by answer does.bytes) (forwarded_by answer k)
  forward_turned k answer s mid st gone later base does holds near =
      let c = comes k does.datagram s base does.there in
      let p : c.packet ≡ does.packet = same_packet c.packet does.packet (sym c.reads ∙ does.reads) in
      forward_turn ssrc low steady id_of codec fixed k does.datagram c.few does.packet does.reads (subst (λ (x : Packet). x.header.ssrc ≡ ssrc) p c.source) (subst (λ (x : Packet). x.header.sequence_number ≡ (low + k) % 65536) p c.number)
      (subst (λ (x : Packet). x.header.timestamp < 4294967296) p c.time) does.now answer does.bytes st s.forwarder does.forwarder gone later
      (subst (λ (x : Packet). (s.forwarder.settings.codec ≡ codec) × (steady ≡ true → (o : IdOffsets) → payload_for s.forwarder.settings.codec o x.payload ≡ x.payload)) p c.kept) holds does.does near

  leave_turned : (k : ℕ) (answer : Forwarded) (s mid : Hops) (st : Stage) (gone later : List ℕ) → IsBase s → (does : DoesLeave k answer s mid) → fills answer ≡ false
      → (steady ≡ false → (d : List ℕ) (p : Packet) → slice_get s.wire.datagrams k ≡ Some d → rtp_at d ≡ Ok p → closing_id codec p.payload ≡ Some (id_of k)) → Holds ssrc low steady id_of st s.forwarder gone
      → AreNear st (came_by answer k ++ later) → Turned ssrc low steady id_of codec fixed k does.datagram st s.forwarder gone later does.forwarder (gone_by answer k gone) (filled_by answer does.bytes) []
  leave_turned k answer s mid st gone later base does none known holds near =
      let c = comes k does.datagram s base does.there in
      let p : c.packet ≡ does.packet = same_packet c.packet does.packet (sym c.reads ∙ does.reads) in
      leave_turn ssrc low steady id_of codec fixed k does.datagram c.few does.packet does.reads (subst (λ (x : Packet). x.header.ssrc ≡ ssrc) p c.source) (subst (λ (x : Packet). x.header.sequence_number ≡ (low + k) % 65536) p c.number)
      (subst (λ (x : Packet). x.header.timestamp < 4294967296) p c.time) answer does.bytes st s.forwarder does.forwarder gone later none
      (λ moves. subst (λ (c : Codec). closing_id c does.packet.payload ≡ Some (id_of k)) (sym base.codec_is) (known moves does.datagram does.packet does.there does.reads)) holds does.does near

  -- what was sent stays
  event_grows : (event : Event) (s mid : Hops) → DoesEvent samples event s mid → (k : ℕ) (b : List ℕ) → slice_get s.wire.datagrams k ≡ Some b → slice_get mid.wire.datagrams k ≡ Some b
  event_grows (sends i entry) s mid does k b there = by entry (slice_get samples i) does
    where
      by : (entry : Option SentSample) (o : Option Sample) → DoesSend o entry s mid → slice_get mid.wire.datagrams k ≡ Some b
      by None None is = subst (λ (x : Hops). slice_get x.wire.datagrams k ≡ Some b) (sym is) there
      by (Some entry) None is = absurd is
      by None (Some sample) is = absurd is
      by (Some entry) (Some sample) is = subst (λ (ds : List (List ℕ)). slice_get ds k ≡ Some b) (sym is.0.gained) (get_append s.wire.datagrams mid.wire.sending.datagrams k b there)
  event_grows (forwards j answer) s mid does k b there = subst (λ (x : Hops). slice_get x.wire.datagrams k ≡ Some b) (sym does.is) there
  event_grows (leaves j answer) s mid does k b there = subst (λ (x : Hops). slice_get x.wire.datagrams k ≡ Some b) (sym does.is) there
  event_grows (delivers j now) s mid does k b there =
      subst (λ (ds : List (List ℕ)). slice_get ds k ≡ Some b) (sym (deliver_quiet (slice_get s.written j) now s mid does).datagrams) there
  event_grows (pops now) s mid does k b there =
      subst (λ (ds : List (List ℕ)). slice_get ds k ≡ Some b) (sym (ap (λ (x : Hops). x.wire.datagrams) does.2 ∙ ap (λ (w : Wire). w.datagrams) does.1.4)) there
  event_grows ends s mid does k b there =
      subst (λ (ds : List (List ℕ)). slice_get ds k ≡ Some b) (sym (ap (λ (x : Hops). x.wire.datagrams) does.2 ∙ ap (λ (w : Wire). w.datagrams) does.1.2)) there

  all_grow : (all_events : List Event) (s t : Hops) → Happens samples all_events s t → (k : ℕ) (b : List ℕ) → slice_get s.wire.datagrams k ≡ Some b → slice_get t.wire.datagrams k ≡ Some b
  all_grow [] s t run k b there = subst (λ (x : Hops). slice_get x.wire.datagrams k ≡ Some b) (sym run) there
  all_grow (event ∷ later) s t run k b there = all_grow later run.0 t run.2 k b (event_grows event s run.0 run.1 k b there)

  -- All events

  pub walks : (all_events : List Event) (s t : Hops) (st : Stage) (gone ks : List ℕ) → IsBase s → Holds ssrc low steady id_of st s.forwarder gone → Wrote st s.forwarder gone s.wire.datagrams s.written ks
      → AreNear st (came all_events) → NoneFilled all_events
      → (steady ≡ false → (k : ℕ) (d : List ℕ) (p : Packet) → slice_get t.wire.datagrams k ≡ Some d → rtp_at d ≡ Ok p → closing_id codec p.payload ≡ Some (id_of k)) → Happens samples all_events s t → Walks all_events s t st gone ks
  walks [] s t st gone ks base holds wrote near none known run = record {
    end = st;
    holds = subst (λ (x : Hops). Holds ssrc low steady id_of st x.forwarder gone) (sym run) holds;
    settings = ap (λ (x : Hops). x.forwarder.settings) run;
    outs = ks;
    wrote = subst (λ (x : Hops). Wrote st x.forwarder gone x.wire.datagrams x.written ks) (sym run) wrote;
    outs_are = λ all. refl;
    course = λ o e all final agrees whole. (
      subst (λ (x : Hops). Agrees o e all st x.forwarder gone) run agrees,
      λ v entries beside. record {
        end = v;
        runs = ap (λ (x : Hops). seen_by e final.fits_type final.fits_ssrc rate final.some o packetizer no_ids final.plain all final.falls samples x v (entries ++ [])) run
            ∙ ap (λ (es : List SentSample). seen_by e final.fits_type final.fits_ssrc rate final.some o packetizer no_ids final.plain all final.falls samples s v es) (append-nil entries);
      },
    );
  }
  walks (sends i entry ∷ later) s t st gone ks base holds wrote near none known run =
      let mid : Hops = run.0 in
      let stays = send_forwarder entry (slice_get samples i) s mid run.1 in
      first_walks (sends i entry) later s mid t st st gone gone ks ks refl (sends_walk i entry s mid st gone ks base run.1)
      (walks later mid t st gone ks (base_sent i (slice_get samples i) entry s mid refl base run.1) (subst (λ (x : Forward). Holds ssrc low steady id_of st x gone) (sym stays.0) holds)
      (send_wrote entry (slice_get samples i) s mid st gone ks run.1 wrote) near none known run.2)
  walks (forwards k answer ∷ later) s t st gone ks base holds wrote near none known run =
      let mid : Hops = run.0 in
      let does : DoesForward k answer s mid = run.1 in
      let turn = forward_turned k answer s mid st gone (came later) base does holds near in
      let forwarder : mid.forwarder ≡ does.forwarder = ap (λ (x : Hops). x.forwarder) does.is in
      let wire : mid.wire ≡ s.wire = ap (λ (x : Hops). x.wire) does.is in
      let settings : mid.forwarder.settings ≡ s.forwarder.settings = ap (λ (x : Forward). x.settings) forwarder ∙ turn.settings in
      first_walks (forwards k answer) later s mid t st turn.next gone gone ks (ks ++ forwarded_by answer k) refl
      (forwards_walk k answer s mid st turn.next gone ks wire settings (λ o e all agrees. turn.agrees o e all (subst (λ (x : Forward). Agrees o e all turn.next x gone) forwarder agrees)))
      (walks later mid t turn.next gone (ks ++ forwarded_by answer k) (base_same s mid base (ap (λ (w : Wire). w.sending) wire) (ap (λ (w : Wire). w.datagrams) wire) settings)
      (subst (λ (x : Forward). Holds ssrc low steady id_of turn.next x gone) (sym forwarder) turn.holds)
      (subst (λ (x : Hops). Wrote turn.next x.forwarder gone x.wire.datagrams x.written (ks ++ forwarded_by answer k)) (sym does.is) (turn.out s.wire.datagrams s.written ks does.there wrote)) turn.near none known run.2)
  walks (leaves k answer ∷ later) s t st gone ks base holds wrote near none known run =
      let mid : Hops = run.0 in
      let does : DoesLeave k answer s mid = run.1 in
      let turn = leave_turned k answer s mid st gone (came later) base does none.0
      (λ moves d p there reads. known moves k d p (all_grow (leaves k answer ∷ later) s t run k d there) reads) holds near in
      let forwarder : mid.forwarder ≡ does.forwarder = ap (λ (x : Hops). x.forwarder) does.is in
      let wire : mid.wire ≡ s.wire = ap (λ (x : Hops). x.wire) does.is in
      let settings : mid.forwarder.settings ≡ s.forwarder.settings = ap (λ (x : Forward). x.settings) forwarder ∙ turn.settings in
      first_walks (leaves k answer) later s mid t st turn.next gone (gone_by answer k gone) ks ks refl
      (leaves_walk k answer s mid st turn.next gone ks wire settings (λ o e all agrees. turn.agrees o e all (subst (λ (x : Forward). Agrees o e all turn.next x (gone_by answer k gone)) forwarder agrees)))
      (walks later mid t turn.next (gone_by answer k gone) ks (base_same s mid base (ap (λ (w : Wire). w.sending) wire) (ap (λ (w : Wire). w.datagrams) wire) settings)
      (subst (λ (x : Forward). Holds ssrc low steady id_of turn.next x (gone_by answer k gone)) (sym forwarder) turn.holds)
      (subst (λ (x : Hops). Wrote turn.next x.forwarder (gone_by answer k gone) x.wire.datagrams x.written ks) (sym does.is)
      (subst (λ (js : List ℕ). Wrote turn.next does.forwarder (gone_by answer k gone) s.wire.datagrams (s.written ++ filled_by answer does.bytes) js) (append-nil ks) (turn.out s.wire.datagrams s.written ks does.there wrote))) turn.near none.1 known run.2)
  walks (delivers j now ∷ later) s t st gone ks base holds wrote near none known run =
      let mid : Hops = run.0 in
      let is : IsQuiet s mid = deliver_quiet (slice_get s.written j) now s mid run.1 in
      first_walks (delivers j now) later s mid t st st gone gone ks ks refl (delivers_walk j now s mid st gone ks is wrote run.1)
      (walks later mid t st gone ks (quiet_base s mid is base) (subst (λ (x : Forward). Holds ssrc low steady id_of st x gone) (sym is.forwarder) holds) (quiet_wrote s mid st gone ks is wrote) near none known run.2)
  walks (pops now ∷ later) s t st gone ks base holds wrote near none known run =
      let mid : Hops = run.0 in
      let is : IsQuiet s mid = plain_quiet s mid run.1.0 run.1.2 (ap (λ (w : Wire). w.sending) run.1.1.4) (ap (λ (w : Wire). w.datagrams) run.1.1.4) in
      first_walks (pops now) later s mid t st st gone gone ks ks refl (pops_walk now s mid st gone ks is run.1)
      (walks later mid t st gone ks (quiet_base s mid is base) (subst (λ (x : Forward). Holds ssrc low steady id_of st x gone) (sym is.forwarder) holds) (quiet_wrote s mid st gone ks is wrote) near none known run.2)
  walks (ends ∷ later) s t st gone ks base holds wrote near none known run =
      let mid : Hops = run.0 in
      let is : IsQuiet s mid = plain_quiet s mid run.1.0 run.1.2 (ap (λ (w : Wire). w.sending) run.1.1.2) (ap (λ (w : Wire). w.datagrams) run.1.1.2) in
      first_walks ends later s mid t st st gone gone ks ks refl (ends_walk s mid st gone ks is run.1)
      (walks later mid t st gone ks (quiet_base s mid is base) (subst (λ (x : Forward). Holds ssrc low steady id_of st x gone) (sym is.forwarder) holds) (quiet_wrote s mid st gone ks is wrote) near none known run.2)
