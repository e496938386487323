-- The units that a run with announced restarts releases, part by part.
use Rattle.std.proofs.Common.{◌≡◌, ◌∙◌, refl, sym, ap, subst, ℕ, ◌+◌, ◌^◌, ◌-◌, ◌<◌, ◌≤◌, inl, inr, max, List, [], ◌∷◌, ◌++◌, Bool, true, false, Option, None, Some, arith, length, append_assoc}
use Rattle.std.proofs.lemmas.List.{length-append, length-map}
use Rattle.std.specs.Global.{Vec}
use Rattle.std.specs.Prelude.{slice_get}
use Rattle.codec_payload_metadata.specs.Release.{Release}
use Rattle.codec_payload_buffer.specs.Held.{Held, IsAboveCutoff, Rises, number_of}
use Rattle.codec_payload_buffer.specs.Steps.{State}
use Rattle.codec_payload_metadata.specs.declared.meta.RtpMeta.{RtpMeta}
use Rattle.codec_payload_codec.proofs.CodecLemmas.{codec_payloads}
use Rattle.codec_payload_codec.specs.Depacketizers.{DepacketizerKind, DepacketizerState, is_built_in_depacketizer, is_codec, kind_of_depacketizer}
use Rattle.codec_payload_codec.specs.Packetizers.{facts_of}
use Rattle.codec_payload_numbers.specs.NotedTimes.{AreTimesOf}
use Rattle.codec_payload_jitter.specs.Receiving.{Receiving}
use Rattle.codec_payload_rtp.specs.declared.values.ExtensionIds.{ExtensionIds}
use Rattle.codec_payload_buffer_runs.proofs.order.ArrivalLemmas.{AllKnown}
use Rattle.codec_payload_buffer_runs.proofs.order.TurnLemmas.{IsPush, Setting}
use Rattle.codec_payload_buffer_runs.specs.Arrivals.{Event, Meets}
use Rattle.codec_payload_buffer_runs.proofs.order.ContiguousLemmas.{IsTracked}
use Rattle.codec_payload_buffer_runs.specs.Log.{Stretch, Turn, begun}
use Rattle.codec_payload_buffer_runs.specs.RunOrder.{IsSentPacket}
use Rattle.codec_payload_buffer_runs.specs.RunUnits.{ReleasesWhole}
use Rattle.codec_payload_buffer_runs.specs.Schedule.{Answer}
use Rattle.codec_payload_buffer_runs.specs.Headline.{InOrder, IsUnitAt, packets_before}
use Rattle.codec_payload_buffer_runs.specs.SentStream.{SentUnit, packets_of}
use Rattle.codec_payload_payloader.specs.Packets.{Packet}
use Rattle.codec_payload_payloader.specs.Sending.{Sample}
use Rattle.codec_payload_sending.specs.Senders.{Sending}
use Rattle.codec_payload_receiver.proofs.BlockTimeLemmas.{new_has_no_block}
use Rattle.codec_payload_datagrams.specs.Kinds.{Kinds}
use Rattle.codec_payload_receiver.specs.RedOnce.{HasNoBlock}
use Rattle.codec_payload_receiver.specs.Sessions.{Session}
use Rattle.codec_payload_receiver.specs.declared.receiver.Settings.{Settings}
use Rattle.codec_payload_datagram_runs.proofs.BroughtLemmas.{Came, pops_came}
use Rattle.codec_payload_datagram_runs.proofs.FateLemmas.{WatchAll, all_in_time, cutoff_lower, none_lost, turns_dropped}
use Rattle.codec_payload_datagram_runs.proofs.RestartLogLemmas.{NoIds, Watches, high_within, no_ids_yet, no_more_ids, walked, watch_made, watch_on, watch_own}
use Rattle.codec_payload_datagram_runs.proofs.HeldLemmas.{AllHeld}
use Rattle.codec_payload_datagram_runs.proofs.StretchChains.{AllTurns, IsFit, IsMade, IsSpanOf, Linked, Watched, all_turns_on, linked_cuts, linked_end, linked_leaves, linked_on, stretches_below}
use Rattle.codec_payload_datagram_runs.proofs.TrackedLemmas.{IsPlainTurn, all_follow_by, none_passed_by}
use Rattle.codec_payload_datagram_runs.specs.Deliveries.{Delivery, IsCutoffBelow, brought_by}
use Rattle.codec_payload_datagram_runs.specs.RestartLogs.{AllInTimeBelow, InEachPart, IsLogOfParts, KeepsPromisesOfParts, NoneIsLostBelow, NoneSendIds, PromisesWithRestarts, RestartLog, turns_after}
use Rattle.codec_payload_datagram_runs.specs.WireLogs.{IsLogOf}
use Rattle.codec_payload_datagram_runs.proofs.BegunNumbers.{AllBelow, bound_of, numbering_at}
use Rattle.codec_payload_datagram_runs.proofs.LayerLemmas.{IsEmpty, Order, begins_part, events_in_order, events_to, meets_limit, no_parts, number_low, one_more_part}
use Rattle.codec_payload_datagram_runs.proofs.NewReceivers.{IsBegun, new_is_begun}
use Rattle.codec_payload_datagram_runs.proofs.PartLemmas.{PartGiven, Starts, above, all_come, below_next, bound_grows, bound_most, canonical, datagrams, delivered_below, ends, first, greatest, heard_by, here, is_heard, known, known_below, log_of, meets, times_after, units, values}
use Rattle.codec_payload_datagram_runs.proofs.PlaceLemmas.{get_behind, get_front, packets_joined, unit_behind}
use Rattle.codec_payload_datagram_runs.proofs.ReceivingLemmas.{IsListening, KeepsLimits, keeps_then}
use Rattle.codec_payload_datagram_runs.proofs.WholeParts.{part_whole}
use Rattle.codec_payload_datagram_runs.proofs.ToldLemmas.{IsResting, is_told, told_kinds, told_packets}
use Rattle.codec_payload_datagram_runs.specs.Releases.{AllComeFirst, AreOfOneStream, delivered, is_sent_again_by}
use Rattle.codec_payload_datagram_runs.specs.RestartReleases.{AreApart, AreBroughtInParts, AreNumberedInParts, ArePartsWithin, AreReleasedWhole, AreUnitsOfParts, IsKnownInPart, IsKnownInParts, IsPartWithin, ReleaseWithRestarts, name_in, next_above, numbers_taken, pops_in, received_in, settings_in, splits_in, units_in}
use Rattle.codec_payload_datagram_runs.specs.RestartRuns.{RunsParts, told_if}
use Rattle.codec_payload_datagram_runs.specs.WireRuns.{Runs, begins, wire_of}
use Rattle.codec_payload_datagram_runs.specs.declared.restart_run.Part.{Part}
use Rattle.codec_payload_datagram_runs.specs.declared.run.DatagramRun.{DatagramRun}

-- what an announcement leaves as it was
told_buffer : (later : Bool) (ssrc : Option ℕ) (s : Session) → (told_if later ssrc s).packets.buffer ≡ s.packets.buffer
told_buffer false ssrc s = refl
told_buffer true ssrc s = ap (λ (r : Receiving). r.buffer) (told_packets ssrc s)

told_numbering : (later : Bool) (ssrc : Option ℕ) (s : Session) → (told_if later ssrc s).packets.numbering ≡ s.packets.numbering
told_numbering false ssrc s = refl
told_numbering true ssrc s = ap (λ (r : Receiving). r.numbering) (told_packets ssrc s)

told_noted : (later : Bool) (ssrc : Option ℕ) (s : Session) → (told_if later ssrc s).packets.noted ≡ s.packets.noted
told_noted false ssrc s = refl
told_noted true ssrc s = ap (λ (r : Receiving). r.noted) (told_packets ssrc s)

told_limits : (later : Bool) (ssrc : Option ℕ) (s : Session) → KeepsLimits s.packets (told_if later ssrc s).packets
told_limits false ssrc s = record { wait_limits = refl; room = refl }
told_limits true ssrc s = record { wait_limits = ap (λ (r : Receiving). r.wait_limits) (told_packets ssrc s); room = ap (λ (r : Receiving). r.room) (told_packets ssrc s) }

told_stream : (later : Bool) (ssrc : Option ℕ) (s : Session) → (told_if later ssrc s).stream ≡ s.stream
told_stream false ssrc s = refl
told_stream true ssrc s = told_kinds ssrc s

-- the numbers of delivered packets
next_most : (reached first bound : ℕ) (ks : List ℕ) → reached ≤ bound → AllBelow (bound - first) ks → next_above reached first ks ≤ bound
next_most reached first bound [] le below = le
next_most reached first bound (k ∷ ks) le below =
    let one = below.0 in
    let most : max reached (first + k + 1) ≤ bound = omega (arith, le, one) in
    next_most (max reached (first + k + 1)) first bound ks most below.1

module _ (samples : List Sample) (settings : Settings) (depacketizer : DepacketizerState) (base : Session) (begun : IsBegun settings depacketizer base) where
  abbrev ids : ExtensionIds
  ids = base.stream.ids

  abbrev kind : DepacketizerKind
  kind = kind_of_depacketizer depacketizer

  abbrev named : Option ℕ → Settings
  named name = record settings { ssrc = name }

  -- the receiver before a part: new, or at rest after an earlier part
  abbrev StateOf : Bool → Option ℕ → Option ℕ → Session → Type 0
  StateOf false name highest s = (s ≡ base) × (name ≡ settings.ssrc) × (highest ≡ None)
  StateOf true name highest s = IsResting base.stream name settings.clock_rate s

  record IsBetween (later : Bool) (name highest : Option ℕ) (s : Session) : Type 0 where
    state : StateOf later name highest s
    kinds : s.stream ≡ base.stream
    numbering : s.packets.numbering ≡ numbering_at settings.forward settings.backward highest
    time_of : ℕ → ℕ
    noted : (t : ℕ → ℕ) → ((n : ℕ) → n < bound_of highest → t n ≡ time_of n) → AreTimesOf t s.packets.noted
    limits : KeepsLimits base.packets s.packets

  is_listening : (sender : Sending) → AreOfOneStream sender settings depacketizer → IsListening None sender.stream base
  is_listening sender one_stream = record {
    payload_type = ap (λ (x : Session). x.stream.payload_type) begun.is ∙ one_stream.payload_type;
    named = ap (λ (x : Session). x.named) begun.is ∙ one_stream.ssrc;
    ssrc = ap (λ (x : Session). x.ssrc) begun.is ∙ one_stream.ssrc;
    not_again = ap (λ (x : Session). is_sent_again_by x.stream.retransmission sender.stream) begun.is ∙ one_stream.not_again;
    rate = ap (λ (x : Session). x.packets.rate) begun.is ∙ one_stream.clock_rate;
    running = ap (λ (x : Session). x.packets.is_restarting) begun.is;
    none_noted = ap (λ (x : Session). x.packets.no_media_numbers) begun.is;
    of_codec = ap (λ (x : Session). is_built_in_depacketizer x.packets.buffer.depacketizer) begun.is ∙ (ap is_codec one_stream.alike ∙ codec_payloads sender.packetizer one_stream.built_in);
    no_block_seen = subst HasNoBlock (sym (ap (λ (x : Session). x.seen) begun.is)) new_has_no_block;
    drops_none = ap (λ (x : Session). x.gates.drops) begun.is ∙ one_stream.drops_none;
    heard = tt;
  }

  starts_as : (later : Bool) (name highest : Option ℕ) (s : Session) (part : Part) (sender : Sending) (run : DatagramRun) → IsBetween later name highest s
      → IsPartWithin samples later (settings_in later part (named name)) depacketizer part sender run
      → Starts sender (told_if later part.ssrc s) highest (received_in samples part run)
  starts_as false name highest s part sender run is within =
      let one_stream : AreOfOneStream sender settings depacketizer = subst (λ (n : Option ℕ). AreOfOneStream sender (named n) depacketizer) is.state.1 within.one_stream in
      inl (subst (IsListening None sender.stream) (sym is.state.0) (is_listening sender one_stream), is.state.2, ap (λ (x : Session). x.packets.first) is.state.0 ∙ ap (λ (x : Session). x.packets.first) begun.is)
  starts_as true name highest s part sender run is within =
      inr (
        is_told part.ssrc base.stream name settings.clock_rate sender.stream s is.state within.one_stream.ssrc
            (ap (λ (x : Session). x.stream.payload_type) begun.is ∙ within.one_stream.payload_type)
            (ap (λ (x : Session). is_sent_again_by x.stream.retransmission sender.stream) begun.is ∙ within.one_stream.not_again) within.one_stream.clock_rate,
        within.in_time refl,
      )

  -- its stream has not ended
  running_as : (later : Bool) (name highest : Option ℕ) (ssrc : Option ℕ) (s : Session) → IsBetween later name highest s → (told_if later ssrc s).packets.ended ≡ false
  running_as false name highest ssrc s is = ap (λ (x : Session). x.packets.ended) is.state.0 ∙ ap (λ (x : Session). x.packets.ended) begun.is
  running_as true name highest ssrc s is = ap (λ (r : Receiving). r.ended) (told_packets ssrc s)

  abbrev given_part : (later : Bool) (name highest : Option ℕ) (s mid : Session) (part : Part) (sender sent : Sending) (run : DatagramRun) (more : ℕ) → IsBetween later name highest s
      → IsPartWithin samples later (settings_in later part (named name)) depacketizer part sender run
      → Runs samples part.steps.items (begins sender (told_if later part.ssrc s)) (wire_of sent mid run)
      → bound_of highest + (196608 + length run.datagrams.items + more) < 2 ^ 62 → PartGiven
  given_part later name highest s mid part sender sent run more is within runs few = record {
    samples = samples;
    all_steps = part.steps.items;
    sender = sender;
    receiver = told_if later part.ssrc s;
    end = wire_of sent mid run;
    run = runs;
    settings = settings_in later part (named name);
    depacketizer = depacketizer;
    one_stream = within.one_stream;
    readable = within.readable;
    within = within.within;
    timely = within.timely;
    windows = begun.windows;
    greatest = highest;
    numbering = told_numbering later part.ssrc s ∙ is.numbering;
    room = omega (arith, few, length-map run.datagrams.items (λ (v : Vec ℕ). v.items));
    time_of = is.time_of;
    noted = λ t agrees. subst (AreTimesOf t) (sym (told_noted later part.ssrc s)) (is.noted t agrees);
    starts = starts_as later name highest s part sender run is within;
  }

  -- the log of the parts, from a stretch on
  record HasPartsLog (parts : List Part) (senders : List Sending) (runs : List DatagramRun) (units : List (List SentUnit)) (w : Stretch) (t : Session) : Type 0 where
    turns : List Turn
    end : Stretch
    is_log : IsLogOfParts ids samples base.packets parts senders runs units w turns end
    left : end.now ≡ t.packets.buffer

  -- what is known of each log of the parts
  abbrev LostIn : ℕ → List Part → List Sending → List DatagramRun → List ℕ → List (List SentUnit) → List Turn → Stretch → Type 0
  LostIn limit parts senders runs numbers units turns end =
      InEachPart (λ known received first us later. NoneIsLostBelow known received limit first (splits_in kind) us later end) ids samples parts senders runs numbers units turns

  abbrev InTimeIn : ℕ → List Part → List Sending → List DatagramRun → List ℕ → List (List SentUnit) → List Turn → Stretch → Type 0
  InTimeIn limit parts senders runs numbers units turns end =
      InEachPart (λ known received first us later. AllInTimeBelow known received limit first (splits_in kind) us later end) ids samples parts senders runs numbers units turns

  record AreWalked (P : Held → Type 0) (limit : ℕ) (parts : List Part) (senders : List Sending) (runs : List DatagramRun) (numbers : List ℕ) (units : List (List SentUnit))
      {told_of : ℕ → Packet → RtpMeta → Type 0} {all : List SentUnit} {bound count : ℕ} (o : Order told_of (splits_in kind) all kind bound count) (s : State) (turns : List Turn) (end : Stretch) : Type 1 where
    linked : Linked P s turns end
    plain : NoIds o → NoneSendIds parts senders runs → AllTurns IsPlainTurn turns
    watched : (low high : ℕ) (Out : Answer → Type 0) → Watches o low high Out → AllTurns (Watched low high Out) turns
    lost : LostIn limit parts senders runs numbers units turns end
    in_time : InTimeIn limit parts senders runs numbers units turns end

  -- the packet is one of those that the parts send, and was delivered
  abbrev IsOfParts : List Part → List Sending → List DatagramRun → List (List SentUnit) → ℕ → Held → Type 0
  IsOfParts parts senders runs units bound p =
      (k : ℕ) × (q : Packet) × (slice_get (packets_of (units_in units)) k ≡ Some q) × IsKnownInParts ids samples parts senders runs units k q p.meta × (p.bytes ≡ q.payload) × (number_of p < bound)

  -- the units of the parts, and that they are released in order, after those of earlier parts
  record AreReleased (parts : List Part) (senders : List Sending) (runs : List DatagramRun) (highest : Option ℕ) (s t : Session) : Type 1 where
    all_units : List (List SentUnit)
    each : AreUnitsOfParts samples base parts senders runs all_units
    firsts : List ℕ
    numbered : AreNumberedInParts firsts all_units
    apart : (reached : ℕ) → reached ≤ bound_of highest → AreApart reached firsts samples parts runs
    brought : (came : List Delivery) → AllHeld (Came came) s.packets.buffer.held → AreBroughtInParts came firsts samples parts runs
    in_order : (told_of : ℕ → Packet → RtpMeta → Type 0) (all : List SentUnit) (count : ℕ) (o : Order told_of (splits_in kind) all kind (bound_of highest) count) (done : List SentUnit)
        → all ≡ done ++ units_in all_units → count ≡ length done
        → ((k : ℕ) (q : Packet) (m : RtpMeta) → IsKnownInParts ids samples parts senders runs all_units k q m → told_of (length (packets_of done) + k) q m)
        → (from : ℕ) → o.Is from s.packets.buffer → InOrder told_of (splits_in kind) all from (pops_in runs)
    exactly : (told_of : ℕ → Packet → RtpMeta → Type 0) (all : List SentUnit) (count : ℕ) (o : Order told_of (splits_in kind) all kind (bound_of highest) count) (done : List SentUnit)
        → all ≡ done ++ units_in all_units → count ≡ length done
        → ((k : ℕ) (q : Packet) (m : RtpMeta) → IsKnownInParts ids samples parts senders runs all_units k q m → told_of (length (packets_of done) + k) q m)
        → (from : ℕ) → o.Is from s.packets.buffer → (limit : ℕ) → s.packets.buffer.limit ≡ limit
        → AreReleasedWhole told_of (splits_in kind) all limit ids samples count parts senders runs all_units
    logged : (w : Stretch) → w.now ≡ s.packets.buffer → HasPartsLog parts senders runs all_units w t
    top : ℕ
    below_top : bound_of highest ≤ top
    walks : (told_of : ℕ → Packet → RtpMeta → Type 0) (all : List SentUnit) (count : ℕ) (o : Order told_of (splits_in kind) all kind (bound_of highest) count) (done : List SentUnit)
        → all ≡ done ++ units_in all_units → count ≡ length done
        → ((k : ℕ) (q : Packet) (m : RtpMeta) → IsKnownInParts ids samples parts senders runs all_units k q m → told_of (length (packets_of done) + k) q m)
        → (P : Held → Type 0) (limit : ℕ) → ((p : Held) → P p → number_of p < limit) → ((p : Held) → IsOfParts parts senders runs all_units top p → P p)
        → (from : ℕ) (w : Stretch) (turns : List Turn) (end : Stretch) → o.Is from w.now → IsFit P w.left → IsSpanOf P w → IsCutoffBelow (bound_of highest) w.left.cutoff
        → IsLogOfParts ids samples base.packets parts senders runs all_units w turns end → AreWalked P limit parts senders runs firsts all_units o w.left turns end

  -- no part, or no sender, is left
  record IsOver (parts : List Part) (senders : List Sending) (runs : List DatagramRun) : Type 1 where
    units_are : AreUnitsOfParts samples base parts senders runs []
    none_whole : (told_of : ℕ → Packet → RtpMeta → Type 0) (all : List SentUnit) (limit count : ℕ) → AreReleasedWhole told_of (splits_in kind) all limit ids samples count parts senders runs []
    has_log : (w : Stretch) → IsLogOfParts ids samples base.packets parts senders runs [] w [] w
    is_log : (w : Stretch) (turns : List Turn) (end : Stretch) → IsLogOfParts ids samples base.packets parts senders runs [] w turns end → (turns ≡ []) × (end ≡ w)
    none_lost_in : (limit : ℕ) (turns : List Turn) (end : Stretch) → LostIn limit parts senders runs [] [] turns end
    none_late_in : (limit : ℕ) (turns : List Turn) (end : Stretch) → InTimeIn limit parts senders runs [] [] turns end

  none_left : (parts : List Part) (senders : List Sending) (runs : List DatagramRun) (highest : Option ℕ) (s t : Session) → runs ≡ [] → t ≡ s → IsOver parts senders runs → AreReleased parts senders runs highest s t
  none_left parts senders runs highest s t none same is_over = record {
    all_units = [];
    each = is_over.units_are;
    firsts = [];
    numbered = tt;
    apart = λ reached le. tt;
    brought = λ came all. tt;
    in_order = λ told_of all count o done whole at moves from is. subst (λ (rs : List DatagramRun). InOrder told_of (splits_in kind) all from (pops_in rs)) (sym none) tt;
    exactly = λ told_of all count o done whole at moves from is limit same. is_over.none_whole told_of all limit count;
    logged = λ w is. record { turns = []; end = w; is_log = is_over.has_log w; left = is ∙ sym (ap (λ (x : Session). x.packets.buffer) same) };
    top = bound_of highest;
    below_top = omega arith;
    walks = λ told_of all count o done whole at moves P limit low fits from w turns end is fit span cutoff log.
        let none_made : turns ≡ [] = (is_over.is_log w turns end log).0 in
        let ends : end ≡ w = (is_over.is_log w turns end log).1 in
        record {
          linked = subst (λ (ts : List Turn). Linked P w.left ts end) (sym none_made) (subst (λ (x : Stretch). (x.left ≡ w.left) × IsFit P x.left × IsSpanOf P x) (sym ends) (refl, fit, span));
          plain = λ no_ids none_send. subst (AllTurns IsPlainTurn) (sym none_made) tt;
          watched = λ lo hi Out watch. subst (AllTurns (Watched lo hi Out)) (sym none_made) tt;
          lost = is_over.none_lost_in limit turns end;
          in_time = is_over.none_late_in limit turns end;
        };
  }

  -- the receiver after a part
  between_parts : (g : PartGiven) (later : Bool) (name highest : Option ℕ) (part : Part) (s : Session) → g.receiver ≡ told_if later part.ssrc s → g.settings ≡ settings_in later part (named name) → s.stream ≡ base.stream
      → KeepsLimits base.packets s.packets → IsBetween true (name_in later part.ssrc name) (greatest g) g.end.session
  between_parts g later name highest part s receiver settings_are kinds limits =
      let heard = is_heard g in
      record {
        state = record {
          kinds = heard.kinds ∙ (ap (λ (x : Session). x.stream) receiver ∙ (told_stream later part.ssrc s ∙ kinds));
          named = heard.calm.named ∙ (sym g.one_stream.ssrc ∙ ap (λ (x : Settings). x.ssrc) settings_are);
          rate = heard.calm.rate ∙ (sym g.one_stream.clock_rate ∙ ap (λ (x : Settings). x.clock_rate) settings_are);
          none_noted = heard.calm.none_noted;
          of_codec = heard.calm.of_codec;
          drops_none = heard.calm.drops_none;
        };
        kinds = heard.kinds ∙ (ap (λ (x : Session). x.stream) receiver ∙ (told_stream later part.ssrc s ∙ kinds));
        numbering = heard.through ∙ ap (λ (x : Settings). numbering_at x.forward x.backward (greatest g)) settings_are;
        time_of = times_after g;
        noted = λ t agrees. (heard_by g t agrees).times;
        limits = keeps_then base.packets g.receiver.packets g.end.session.packets
            (subst (λ (x : Session). KeepsLimits base.packets x.packets) (sym receiver) (keeps_then base.packets s.packets (told_if later part.ssrc s).packets limits (told_limits later part.ssrc s))) heard.limits;
      }

  -- the index of a packet of a later part
  index_behind : (done us : List SentUnit) (k : ℕ) → length (packets_of done) + (length (packets_of us) + k) ≡ length (packets_of (done ++ us)) + k
  index_behind done us k = omega (arith, ap length (packets_joined done us), length-append (packets_of done) (packets_of us))

  -- a unit of a part is a unit of the run
  embeds_as : (c : Setting) (told_of : ℕ → Packet → RtpMeta → Type 0) (all : List SentUnit) (count : ℕ) (done us later : List SentUnit) → all ≡ done ++ (us ++ later) → count ≡ length done
      → c.kind ≡ kind → ((k : ℕ) (q : Packet) (m : RtpMeta) → c.known k q m → told_of (length (packets_of done) + k) q m) → c.splits ≡ (facts_of c.kind).splits → c.units ≡ us
      → (j : ℕ) (r : Release) → IsUnitAt c.known c.splits c.units j r → IsUnitAt told_of (splits_in kind) all (count + j) r
  embeds_as c told_of all count done us later whole at same_kind moves splits units_are j r unit =
      subst (λ (n : ℕ). IsUnitAt told_of (splits_in kind) all (n + j) r) (sym at)
      (subst (λ (vs : List SentUnit). IsUnitAt told_of (splits_in kind) vs (length done + j) r) (sym whole)
      (subst (λ (b : Bool). IsUnitAt told_of b (done ++ (us ++ later)) (length done + j) r) (splits ∙ ap (λ (k : DepacketizerKind). (facts_of k).splits) same_kind)
      (unit_behind c.known told_of c.splits done us later j r moves (subst (λ (vs : List SentUnit). IsUnitAt c.known c.splits vs j r) units_are unit))))

  parts_released : (later : Bool) (name highest : Option ℕ) (parts : List Part) (senders : List Sending) (s : Session) (runs : List DatagramRun) (after : List Sending) (t : Session)
      → RunsParts samples later parts senders s runs after t → IsBetween later name highest s → ArePartsWithin samples later (named name) depacketizer parts senders runs
      → bound_of highest + numbers_taken runs < 2 ^ 62 → AreReleased parts senders runs highest s t
  parts_released later name highest [] senders s runs after t is between within few = none_left [] senders runs highest s t is.0 is.2 (record {
    units_are = refl;
    none_whole = λ told_of all limit count. tt;
    has_log = λ w. (refl, refl);
    is_log = λ w turns end log. log;
    none_lost_in = λ limit turns end. tt;
    none_late_in = λ limit turns end. tt;
  })
  parts_released later name highest (part ∷ parts) [] s runs after t is between within few = none_left (part ∷ parts) [] runs highest s t is.0 is.2 (record {
    units_are = refl;
    none_whole = λ told_of all limit count. tt;
    has_log = λ w. (refl, refl);
    is_log = λ w turns end log. log;
    none_lost_in = λ limit turns end. tt;
    none_late_in = λ limit turns end. tt;
  })
  parts_released later name highest (part ∷ parts) (sender ∷ senders) s [] after t is between within few = absurd is
  parts_released later name highest (part ∷ parts) (sender ∷ senders) s (run ∷ runs) [] t is between within few = absurd is
  parts_released later name highest (part ∷ parts) (sender ∷ senders) s (run ∷ runs) (sent ∷ after) t is between within few =
      let mid : Session = is.0 in
      let g : PartGiven = given_part later name highest s mid part sender sent run (numbers_taken runs) between within.0 is.1 few in
      let us : List SentUnit = units g in
      let most = bound_most g in
      let count_is = length-map run.datagrams.items (λ (v : Vec ℕ). v.items) in
      let rest : AreReleased parts senders runs (greatest g) mid t =
      parts_released true (name_in later part.ssrc name) (greatest g) parts senders mid runs after t is.2 (between_parts g later name highest part s refl refl between.kinds between.limits) within.1
      (omega (arith, few, most, count_is)) in
      let same_ids : (told_if later part.ssrc s).stream.ids ≡ ids = ap (λ (x : Kinds). x.ids) (told_stream later part.ssrc s ∙ between.kinds) in
      let c : Setting = here g ids in
      let same_kind : c.kind ≡ kind = sym within.0.one_stream.alike in
      let all_known : AllKnown c (is_heard g).events = subst (λ (x : ExtensionIds). AllKnown (here g x) (is_heard g).events) same_ids (known g) in
      record {
        all_units = us ∷ rest.all_units;
        each = (
          record { canonical = canonical g; datagrams = datagrams g; ends = ends g; extension_values = values g base (wire_of sender base run) },
          rest.each,
        );
        firsts = first g ∷ rest.firsts;
        numbered = (c.numbered, rest.numbered);
        apart = λ reached le.
            let high = above g in
            let up = bound_grows g in (
              omega (arith, le, high),
              rest.apart (next_above reached (first g) (delivered (received_in samples part run)))
                  (next_most reached (first g) (bound_of (greatest g)) (delivered (received_in samples part run)) (omega (arith, le, up)) (below_next g)),
            );
        brought = λ came all.
            let here_came = pops_came c.clock_rate (first g) (packets_of us) c.numbered (told_if later part.ssrc s).packets.ended (received_in samples part run) came (is_heard g).events
            (told_if later part.ssrc s).packets.buffer mid.packets.buffer run.pops.items (is_heard g).brings (meets g)
            (subst (λ (b : State). AllHeld (Came came) b.held) (sym (told_buffer later part.ssrc s)) all) in
            (here_came.0, rest.brought (brought_by (first g) came (received_in samples part run)) here_came.1);
        in_order = λ told_of all count o done whole at moves from there.
            let embeds = embeds_as c told_of all count done us (units_in rest.all_units) whole at same_kind (λ k q m told_it. moves k q m (inl told_it)) refl refl in
            events_in_order told_of (splits_in kind) all kind (bound_of highest) count o c same_kind (above g) (bound_of (greatest g)) (bound_grows g) (known_below g ids) embeds
            from (is_heard g).events (told_if later part.ssrc s).packets.buffer mid.packets.buffer run.pops.items (pops_in runs) all_known
            (begins_part told_of (splits_in kind) all kind (bound_of highest) count o c same_kind (above g) (bound_of (greatest g)) (bound_grows g) (known_below g ids) embeds
            from (told_if later part.ssrc s).packets.buffer (subst (o.Is from) (sym (told_buffer later part.ssrc s)) there))
            (meets g)
            (rest.in_order told_of all (count + length us)
            (one_more_part told_of (splits_in kind) all kind (bound_of highest) count o c same_kind (above g) (bound_of (greatest g)) (bound_grows g) (known_below g ids) embeds)
            (done ++ us) (whole ∙ sym (append_assoc done us (units_in rest.all_units))) (omega (arith, at, length-append done us))
            (λ k q m told_it. subst (λ (i : ℕ). told_of i q m) (index_behind done us k) (moves (length (packets_of us) + k) q m (inr (k, refl, told_it)))));
        exactly = λ told_of all count o done whole at moves from there limit same.
            let embeds = embeds_as c told_of all count done us (units_in rest.all_units) whole at same_kind (λ k q m told_it. moves k q m (inl told_it)) refl refl in
            let now : State = (told_if later part.ssrc s).packets.buffer in
            let is_now : o.Is from now = subst (o.Is from) (sym (told_buffer later part.ssrc s)) there in
            let limit_now : now.limit ≡ limit = ap (λ (x : State). x.limit) (told_buffer later part.ssrc s) ∙ same in
            let begun_part = begins_part told_of (splits_in kind) all kind (bound_of highest) count o c same_kind (above g) (bound_of (greatest g)) (bound_grows g) (known_below g ids) embeds from now is_now in
            let after_it = events_to told_of (splits_in kind) all kind (bound_of highest) count o c same_kind (above g) (bound_of (greatest g)) (bound_grows g) (known_below g ids) embeds
            from (is_heard g).events now mid.packets.buffer run.pops.items all_known begun_part (meets g) in (
              λ no_ids some come.
                  let first_all = all_come g limit (subst (λ (n : ℕ). AllComeFirst limit n (received_in samples part run)) (sym count_is) come) in
                  part_whole told_of (splits_in kind) all kind (bound_of highest) count o c same_kind (above g) (bound_of (greatest g)) (bound_grows g) (known_below g ids) embeds no_ids
                  from first_all.before first_all.after now mid.packets.buffer run.pops.items (subst (AllKnown c) first_all.whole all_known) first_all.only first_all.once first_all.each
                  (subst (λ (n : ℕ). length (packets_of us) ≤ n) (sym limit_now) first_all.room) is_now some
                  (subst (λ (es : List Event). Meets c.clock_rate (packets_of c.units) es now run.pops.items mid.packets.buffer) first_all.whole (meets g)),
              rest.exactly told_of all (count + length us)
                  (one_more_part told_of (splits_in kind) all kind (bound_of highest) count o c same_kind (above g) (bound_of (greatest g)) (bound_grows g) (known_below g ids) embeds)
                  (done ++ us) (whole ∙ sym (append_assoc done us (units_in rest.all_units))) (omega (arith, at, length-append done us))
                  (λ k q m told_it. subst (λ (i : ℕ). told_of i q m) (index_behind done us k) (moves (length (packets_of us) + k) q m (inr (k, refl, told_it))))
                  after_it.0 after_it.1 limit (meets_limit c.clock_rate (packets_of c.units) (is_heard g).events now mid.packets.buffer run.pops.items (meets g) ∙ limit_now),
            );
        logged = λ w is.
            let limits = keeps_then base.packets s.packets (told_if later part.ssrc s).packets between.limits (told_limits later part.ssrc s) in
            let here_log = log_of g base.packets limits w (is ∙ sym (told_buffer later part.ssrc s)) in
            let more = rest.logged here_log.end here_log.left in
            let is_log : IsLogOf (IsKnownInPart ids samples part sender run us) (packets_of us) base.packets false (received_in samples part run) w here_log.turns here_log.end =
            subst (λ (x : ExtensionIds). IsLogOf (IsKnownInPart x samples part sender run us) (packets_of us) base.packets false (received_in samples part run) w here_log.turns here_log.end) same_ids
            (subst (λ (b : Bool). IsLogOf (IsKnownInPart (told_if later part.ssrc s).stream.ids samples part sender run us) (packets_of us) base.packets b (received_in samples part run) w here_log.turns here_log.end)
            (running_as later name highest part.ssrc s between) here_log.is_log) in
            record {
              turns = here_log.turns ++ more.turns;
              end = more.end;
              is_log = (here_log.turns, here_log.end, more.turns, refl, is_log, here_log.answers_are, more.is_log);
              left = more.left;
            };
        top = rest.top;
        below_top = let up = bound_grows g in let b = rest.below_top in omega (arith, up, b);
        walks = λ told_of all count o done whole at moves P limit low fits from w turns end there fit span cutoff log.
            let embeds = embeds_as c told_of all count done us (units_in rest.all_units) whole at same_kind (λ k q m told_it. moves k q m (inl told_it)) refl refl in
            let more : Order told_of (splits_in kind) all kind (bound_of (greatest g)) (count + length us) = one_more_part told_of (splits_in kind) all kind (bound_of highest) count o c same_kind (above g) (bound_of (greatest g)) (bound_grows g) (known_below g ids) embeds in
            let front = packets_joined us (units_in rest.all_units) in
            let fits_here : (p : Held) → IsPush c p → P p = λ p push.
            let l = number_low told_of (splits_in kind) all kind (bound_of highest) count o c same_kind (above g) (bound_of (greatest g)) (bound_grows g) (known_below g ids) embeds p push in
            let b = rest.below_top in
            fits p (
              push.0,
              push.1,
              ap (λ (ps : List Packet). slice_get ps push.0) front ∙ get_front (packets_of us) (packets_of (units_in rest.all_units)) push.0 push.1 push.2,
              inl push.3,
              ap (λ (h : Held). h.bytes) push.4,
              omega (arith, l, b),
            ) in
            let fits_later : (p : Held) → IsOfParts parts senders runs rest.all_units rest.top p → P p = λ p is_of.
            fits p (
              length (packets_of us) + is_of.0,
              is_of.1,
              ap (λ (ps : List Packet). slice_get ps (length (packets_of us) + is_of.0)) front
                  ∙ (get_behind (packets_of us) (packets_of (units_in rest.all_units)) is_of.0 ∙ is_of.2),
              inr (is_of.0, refl, is_of.3),
              is_of.4,
              is_of.5,
            ) in
            let begins = begins_part told_of (splits_in kind) all kind (bound_of highest) count o c same_kind (above g) (bound_of (greatest g)) (bound_grows g) (known_below g ids) embeds from w.now there in
            let cutoff_here = cutoff_lower (bound_of highest) (bound_of (greatest g)) w.left.cutoff (bound_grows g) cutoff in
            let walk = λ (T : Turn → Type 0) (holds : (n : ℕ) (turn : Turn) → more.Is n turn.stretch.now → IsMade turn.stretch.now turn.after turn.passed turn.answer → T turn).
            walked told_of (splits_in kind) all kind (bound_of highest) count o c same_kind (above g) (bound_of (greatest g)) (bound_grows g) (known_below g ids) embeds P fits_here T holds base.packets false (received_in samples part run) from w log.0 log.1 begins fit span cutoff_here log.4 in
            let first_walk = walk (λ turn. Unit {0}) (λ n turn is made. tt) in
            let at_restart = linked_end P w.left log.0 log.1 first_walk.linked in
            let later_walk : AreWalked P limit parts senders runs rest.firsts rest.all_units more log.1.left log.2 end =
            rest.walks told_of all (count + length us) more
            (done ++ us) (whole ∙ sym (append_assoc done us (units_in rest.all_units))) (omega (arith, at, length-append done us))
            (λ k q m told_it. subst (λ (i : ℕ). told_of i q m) (index_behind done us k) (moves (length (packets_of us) + k) q m (inr (k, refl, told_it))))
            P limit low fits_later first_walk.from log.1 log.2 end first_walk.is at_restart.0 at_restart.1 first_walk.cutoff log.6 in
            let all_turns : List Turn = log.0 ++ log.2 in
            let linked : Linked P w.left all_turns end = linked_on P w.left log.0 log.1 log.2 end first_walk.linked later_walk.linked in
            let leaves = linked_leaves P limit low w.left all_turns end linked in
            let watch_all : (lo hi : ℕ) (Out : Answer → Type 0) → Watches more lo hi Out → AllTurns (Watched lo hi Out) all_turns = λ lo hi Out watch.
            all_turns_on (Watched lo hi Out) log.0 log.2
            (walk (Watched lo hi Out) (λ n turn is made has. watch_made more lo hi Out watch n turn.stretch.now turn.after turn.passed turn.answer is made has)).each
            (later_walk.watched lo hi Out watch) in
            let own : WatchAll c.known (first g) c.splits us (received_in samples part run) limit all_turns = λ place u is came.
            watch_all (first g + packets_before place us) (first g + packets_before (place + 1) us) (ReleasesWhole c.known c.splits us place)
            (watch_own told_of (splits_in kind) all kind (bound_of highest) count o c same_kind (above g) (bound_of (greatest g)) (bound_grows g) (known_below g ids) embeds place u is (high_within told_of (splits_in kind) all kind (bound_of highest) count o c same_kind (above g) (bound_of (greatest g)) (bound_grows g) (known_below g ids) embeds place u is (received_in samples part run) came (delivered_below g))) in
            let dropped : log.2 ≡ turns_after run all_turns =
            sym (turns_dropped log.0 log.2 (length run.pops.items) (ap length (sym log.5) ∙ length-map log.0 (λ (turn : Turn). turn.answer))) in
            let splits_are : c.splits ≡ splits_in kind = ap (λ (k : DepacketizerKind). (facts_of k).splits) same_kind in
            let plain_here : NoIds o → NoneSendIds (part ∷ parts) (sender ∷ senders) (run ∷ runs) → AllTurns IsPlainTurn all_turns = λ no_ids none_send.
            let still_none = no_more_ids told_of (splits_in kind) all kind (bound_of highest) count o c same_kind (above g) (bound_of (greatest g)) (bound_grows g) (known_below g ids) embeds no_ids none_send.0 in
            all_turns_on IsPlainTurn log.0 log.2
            (walk IsPlainTurn (λ n turn is made h. still_none n (record turn.stretch.now { hold_back = h }) (more.waits n h turn.stretch.now is))).each
            (later_walk.plain still_none none_send.1) in
            subst (λ (ts : List Turn). AreWalked P limit (part ∷ parts) (sender ∷ senders) (run ∷ runs) (first g ∷ rest.firsts) (us ∷ rest.all_units) o w.left ts end) (sym log.3) (record {
              linked = linked;
              plain = plain_here;
              watched = λ lo hi Out watch. watch_all lo hi Out (watch_on told_of (splits_in kind) all kind (bound_of highest) count o c same_kind (above g) (bound_of (greatest g)) (bound_grows g) (known_below g ids) embeds lo hi Out watch);
              lost = (
                subst (λ (b : Bool). NoneIsLostBelow c.known (received_in samples part run) limit (first g) b us all_turns end) splits_are
                    (none_lost c.known (first g) c.splits us (received_in samples part run) limit w.left all_turns end leaves own),
                subst (λ (ts : List Turn). LostIn limit parts senders runs rest.firsts rest.all_units ts end) dropped later_walk.lost,
              );
              in_time = (
                subst (λ (b : Bool). AllInTimeBelow c.known (received_in samples part run) limit (first g) b us all_turns end) splits_are
                    (all_in_time c.known (first g) c.splits us (received_in samples part run) limit w.left all_turns end leaves own
                    (λ place. linked_cuts (first g + packets_before place us) P w.left all_turns end linked)
                    (cutoff_lower (bound_of highest) (first g) w.left.cutoff (let high = above g in omega (arith, high)) cutoff)),
                subst (λ (ts : List Turn). InTimeIn limit parts senders runs rest.firsts rest.all_units ts end) dropped later_walk.in_time,
              );
            });
      }

  new_between : IsBetween false settings.ssrc None base
  new_between = record {
    state = (refl, refl, refl);
    kinds = refl;
    numbering = ap (λ (x : Session). x.packets.numbering) begun.is;
    time_of = λ n. 0;
    noted = λ t agrees. subst (λ (x : Session). AreTimesOf t x.packets.noted) (sym begun.is) (tt, refl);
    limits = record { wait_limits = refl; room = refl };
  }

-- Runs with announced restarts

pub promises_with_restarts : PromisesWithRestarts
promises_with_restarts samples parts senders receiver runs after t run within =
    let begun_new = new_is_begun within.settings within.depacketizer receiver within.new in
    let kind : DepacketizerKind = kind_of_depacketizer within.depacketizer in
    let all = parts_released samples within.settings within.depacketizer receiver begun_new false within.settings.ssrc None parts senders receiver runs after t run
    (new_between samples within.settings within.depacketizer receiver begun_new) within.each (omega (arith, within.few)) in
    let us : List (List SentUnit) = all.all_units in
    let is_known = IsKnownInParts receiver.stream.ids samples parts senders runs us in
    let behind : (k : ℕ) (q : Packet) (m : RtpMeta) → is_known k q m → is_known (length (packets_of []) + k) q m = λ k q m told_it.
    let same_index : k ≡ length (packets_of []) + k = omega arith in
    subst (λ (n : ℕ). is_known n q m) same_index told_it in
    let same : kind ≡ kind_of_depacketizer receiver.packets.buffer.depacketizer = sym (ap (λ (x : Session). kind_of_depacketizer x.packets.buffer.depacketizer) begun_new.is) in
    let nothing_held : receiver.packets.buffer.held ≡ [] = ap (λ (x : Session). x.packets.buffer.held) begun_new.is in
    let no_cutoff : receiver.packets.buffer.cutoff ≡ None = ap (λ (x : Session). x.packets.buffer.cutoff) begun_new.is in
    let empty : IsEmpty kind 0 receiver.packets.buffer = record { nothing_done = refl; nothing_held = nothing_held; no_cutoff = no_cutoff; reads = sym same } in
    let none_yet = no_parts is_known (splits_in kind) (units_in us) kind in
    let top : ℕ = all.top in
    let P : Held → Type 0 = λ p. IsSentPacket is_known (packets_of (units_in us)) p × (number_of p < top) in
    let fit : IsFit P receiver.packets.buffer = record {
      sound = record {
        rises = subst Rises (sym nothing_held) tt;
        above = subst (λ (c : Option ℕ). IsAboveCutoff c receiver.packets.buffer.held) (sym no_cutoff) tt;
        few = subst (λ (hs : List Held). length hs ≤ receiver.packets.buffer.limit) (sym nothing_held) (omega arith);
      };
      each = subst (AllHeld P) (sym nothing_held) tt;
    } in
    let start : Stretch = begun receiver.packets.buffer in
    let walk = λ (log : RestartLog samples parts senders receiver runs us t).
    all.walks is_known (units_in us) 0 none_yet [] refl refl behind P top (λ p is. is.1) (λ p is. ((is.0, is.1, is.2, is.3, is.4), is.5)) 0 start log.turns log.end empty fit (record { sent = tt; now = refl })
    (subst (IsCutoffBelow 0) (sym no_cutoff) tt) log.is_log in
    let one = all.logged start refl in
    let tracked : IsTracked None false receiver.packets.buffer = (ap (λ (x : Session). x.packets.buffer.evicted) begun_new.is, λ clear. no_cutoff) in
    subst (KeepsPromisesOfParts samples parts senders receiver runs t) same (record {
      released = record {
        units = us;
        each = all.each;
        firsts = all.firsts;
        numbered = all.numbered;
        apart = all.apart 0 (omega arith);
        in_order = all.in_order is_known (units_in us) 0 none_yet [] refl refl behind 0 empty;
        before_pops = all.brought [] (subst (AllHeld (Came [])) (sym nothing_held) tt);
        exactly = all.exactly is_known (units_in us) 0 none_yet [] refl refl behind 0 empty receiver.packets.buffer.limit refl;
      };
      logged = record { turns = one.turns; end = one.end; is_log = one.is_log; left = one.left };
      top = top;
      order = λ log. stretches_below P top (λ p is. is.1) is_known (packets_of (units_in us)) (λ p is. is.0) receiver.packets.buffer log.turns log.end (walk log).linked;
      contiguous = λ none log.
          all_follow_by P top (λ p is. is.1) None false receiver.packets.buffer log.turns log.end ((walk log).plain (no_ids_yet is_known (splits_in kind) (units_in us) kind) none) tracked (walk log).linked;
      no_silent_loss = λ log. (walk log).lost;
      in_time = λ log. (walk log).in_time;
      none_skipped = λ none log.
          none_passed_by P receiver.packets.buffer log.turns log.end ((walk log).plain (no_ids_yet is_known (splits_in kind) (units_in us) kind) none) (walk log).linked;
    })

pub release_with_restarts : ReleaseWithRestarts
release_with_restarts samples parts senders receiver runs after t run within = (promises_with_restarts samples parts senders receiver runs after t run within).released
