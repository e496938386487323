-- What a forwarder writes in a run with two sources.
use Rattle.std.proofs.Common.{◌≡◌, ◌∙◌, refl, sym, ap, subst, ℕ, List, [], ◌∷◌, ◌++◌, append-nil, append_assoc, inl, inr, true, false, Option, Some, None, Ok, Result, arith}
use Rattle.std.specs.Prelude.{slice_get}
use Rattle.codec_payload_base.specs.declared.wire.Codec.{Codec}
use Rattle.codec_payload_payloader.specs.Sending.{Sample}
use Rattle.codec_payload_receiver.specs.Sessions.{Session}
use Rattle.codec_payload_rtp.specs.RtpPackets.{Packet}
use Rattle.codec_payload_rtp.specs.RtpReading.{rtp_at}
use Rattle.codec_payload_rtp.specs.declared.rtp.RtpError.{RtpError}
use Rattle.codec_payload_sending.specs.Senders.{Sending}
use Rattle.codec_payload_sending_forward.specs.Forwarding.{Forward, is_source}
use Rattle.codec_payload_sending_forward.specs.declared.forwarder.Forwarded.{Forwarded}
use Rattle.codec_payload_datagram_runs.specs.declared.run.SentSample.{SentSample}
use Rattle.codec_payload_forward_runs.proofs.SourceLemmas.{AllOf, IsDatagramOf, of_at}
use Rattle.codec_payload_forward_runs.proofs.SwitchEvents.{AreSources, Became, ComesOne, DeliversOne, Happens, Viewer, became, viewer_of}
use Rattle.codec_payload_forward_runs.proofs.SwitchNumbers.{IsAt, IsEither, IsOn, Writes, forwards_one, ssrc_of}
use Rattle.codec_payload_forward_runs.proofs.ViewerLemmas.{IsOf}
use Rattle.codec_payload_forward_runs.specs.ForwardRuns.{written_by}
use Rattle.codec_payload_forward_runs.specs.SwitchReleases.{AreWritten, AreTwoSources, Event, ForwardSwitching, Reached, datagrams_of, delivers, ends, events, events_of, forwards, pops, reached_by, wants, Writing, writings}
use Rattle.codec_payload_forward_runs.specs.SwitchRuns.{SwitchRuns, Switched, begins_switching}
use Rattle.codec_payload_forward_runs.specs.declared.switch_run.Source.{Source}
use Rattle.codec_payload_forward_runs.specs.declared.switch_run.Source.TheVariants as sources
use Rattle.codec_payload_forward_runs.specs.declared.switch_run.SwitchStep.{SwitchStep}

pub same_packet : (d : List ℕ) (p q : Packet) → rtp_at d ≡ Ok p → rtp_at d ≡ Ok q → p ≡ q
same_packet d p q one two = let same : ◌≡◌ {A = Result Packet RtpError} (Ok p) (Ok q) = sym one ∙ two in cc

module _ (a b : ℕ) (differ : a ≡ b → ⊥) (codec : Codec) (first second : List (List ℕ)) (all_first : AllOf false a codec first) (all_second : AllOf false b codec second) where
  pub all_of : (source : Source) → AllOf false (ssrc_of source a b) codec (datagrams_of source first second)
  all_of sources.First = all_first
  all_of sources.Second = all_second

  -- the packet that comes is one of the source
  pub is_of : (source : Source) (k : ℕ) (answer : Forwarded) (v w : Viewer) (c : ComesOne (datagrams_of source first second) k answer v w) → IsOf false (ssrc_of source a b) codec c.packet
  is_of source k answer v w c =
      let of : IsDatagramOf false (ssrc_of source a b) codec c.datagram = of_at false (ssrc_of source a b) codec (datagrams_of source first second) k c.datagram (all_of source) c.there in
      subst (IsOf false (ssrc_of source a b) codec) (same_packet c.datagram of.0 c.packet of.1 c.reads) of.2

  record Walks (es : List Event) (v w : Viewer) (r : Reached) : Type 0 where
    written : List (List ℕ)
    whole : w.written ≡ v.written ++ written
    are : AreWritten first second r (writings es) written

  walks_on : (es later : List Event) (v mid w : Viewer) (r : Reached) → writings es ≡ writings later → mid.written ≡ v.written → Walks later mid w r → Walks es v w r
  walks_on es later v mid w r none same rest = record {
    written = rest.written;
    whole = rest.whole ∙ ap (λ (bs : List (List ℕ)). bs ++ rest.written) same;
    are = subst (λ (ws : List Writing). AreWritten first second r ws rest.written) (sym none) rest.are;
  }

  same_at : (v mid : Viewer) (r : Reached) → mid.forwarder ≡ v.forwarder → IsAt a b differ codec v.forwarder r → IsAt a b differ codec mid.forwarder r
  same_at v mid r same at = subst (λ (f : Forward). IsAt a b differ codec f r) (sym same) at

  wanted_at : (ssrc : ℕ) (f t : Forward) (r : Reached) → t ≡ record f { wanted = Some ssrc } → IsAt a b differ codec f r → IsAt a b differ codec t r
  wanted_at ssrc f t r same at = subst (λ (x : Forward). IsAt a b differ codec x r) (sym same) (record {
    settings = at.settings;
    codec_is = at.codec_is;
    next = at.next;
    latest = at.latest;
    wrote = at.wrote;
    on = λ on. let o = at.on on in record {
      source = o.source;
      source_is = o.source_is;
      ssrc_is = o.ssrc_is;
      offset = o.offset;
      times = o.times;
      ids = o.ids;
      none_left = o.none_left;
      none_closed = o.none_closed;
      base = o.base;
      from = o.from;
      place = o.place;
      low = o.low;
      wrote = o.wrote;
    };
  })

  walk_one : (source : Source) (k : ℕ) (answer : Forwarded) (later : List Event) (v mid w : Viewer) (r : Reached) (c : ComesOne (datagrams_of source first second) k answer v mid)
      → (one : Writes a b differ codec first second source k answer c.bytes r c.forwarder) → Walks later mid w one.next → Walks (forwards source k answer ∷ later) v w r
  walk_one source k answer later v mid w r c one rest = record {
    written = written_by answer c.bytes ++ rest.written;
    whole = rest.whole ∙ (ap (λ (x : Viewer). x.written ++ rest.written) c.is ∙ append_assoc v.written (written_by answer c.bytes) rest.written);
    are = one.writes (writings later) rest.written rest.are;
  }

  delivered_same : (o : Option (List ℕ)) (now : _) (v w : Viewer) → DeliversOne o now v w → (w.forwarder ≡ v.forwarder) × (w.written ≡ v.written)
  delivered_same None now v w same = (ap (λ (x : Viewer). x.forwarder) same, ap (λ (x : Viewer). x.written) same)
  delivered_same (Some bytes) now v w done = (ap (λ (x : Viewer). x.forwarder) done.3, ap (λ (x : Viewer). x.written) done.3)

  walk : (es : List Event) (v w : Viewer) (r : Reached) → IsAt a b differ codec v.forwarder r → Happens first second es v w → Walks es v w r
  walk [] v w r at happens = record { written = []; whole = ap (λ (x : Viewer). x.written) happens ∙ sym (append-nil v.written); are = tt }
  walk (wants ssrc ∷ later) v w r at happens =
      walks_on (wants ssrc ∷ later) later v happens.0 w r refl (ap (λ (x : Viewer). x.written) happens.1)
      (walk later happens.0 w r (wanted_at ssrc v.forwarder happens.0.forwarder r (ap (λ (x : Viewer). x.forwarder) happens.1) at) happens.2)
  walk (forwards source k answer ∷ later) v w r at happens =
      let c = happens.1 in
      let one : Writes a b differ codec first second source k answer c.bytes r c.forwarder =
      forwards_one a b differ codec first second source k c.now c.packet v.forwarder answer c.bytes r c.forwarder (is_of source k answer v happens.0 c) (c.datagram, c.there, c.reads) at c.does in
      walk_one source k answer later v happens.0 w r c one
      (walk later happens.0 w one.next (subst (λ (f : Forward). IsAt a b differ codec f one.next) (sym (ap (λ (x : Viewer). x.forwarder) c.is)) one.at) happens.2)
  walk (delivers j now ∷ later) v w r at happens =
      let same = delivered_same (slice_get v.written j) now v happens.0 happens.1 in
      walks_on (delivers j now ∷ later) later v happens.0 w r refl same.1 (walk later happens.0 w r (same_at v happens.0 r same.0 at) happens.2)
  walk (pops now ∷ later) v w r at happens =
      walks_on (pops now ∷ later) later v happens.0 w r refl (ap (λ (x : Viewer). x.written) happens.1.4)
      (walk later happens.0 w r (same_at v happens.0 r (ap (λ (x : Viewer). x.forwarder) happens.1.4) at) happens.2)
  walk (ends ∷ later) v w r at happens =
      walks_on (ends ∷ later) later v happens.0 w r refl (ap (λ (x : Viewer). x.written) happens.1.2)
      (walk later happens.0 w r (same_at v happens.0 r (ap (λ (x : Viewer). x.forwarder) happens.1.2) at) happens.2)

not_on : (source : Option ℕ) (ssrc : ℕ) → is_source source ssrc ≡ false → is_source source ssrc ≡ true → ⊥
not_on source ssrc off on = cc

-- before a run
begun_at : (a b : ℕ) (differ : a ≡ b → ⊥) (f : Forward) → is_source f.source a ≡ false → is_source f.source b ≡ false → IsAt a b differ f.settings.codec f (reached_by f)
begun_at a b differ f off_a off_b = record { settings = refl; codec_is = refl; next = omega arith; latest = refl; wrote = refl; on = by }
  where
    by : IsEither a b f.source → IsOn a b differ f.settings.codec f (reached_by f)
    by (inl on) = absurd (not_on f.source a off_a on)
    by (inr on) = absurd (not_on f.source b off_b on)

module _ (samples : List Sample) (all_steps : List SwitchStep) (first second : Sending) (forwarder : Forward) (receiver : Session) (t : Switched)
    (run : SwitchRuns samples all_steps (begins_switching first second forwarder receiver) t) where
  abbrev s : Switched
  s = begins_switching first second forwarder receiver

  abbrev codec : Codec
  codec = forwarder.settings.codec

  abbrev a : ℕ
  a = first.stream.ssrc

  abbrev b : ℕ
  b = second.stream.ssrc

  pub begins : AreSources a b first.stream.clock_rate second.stream.clock_rate first.stream.number second.stream.number codec samples s
  begins = record {
    first = record { source = refl; clock = refl; keeps = λ e. absurd (cc); of_codec = λ e. absurd (cc); all = tt };
    second = record { source = refl; clock = refl; keeps = λ e. absurd (cc); of_codec = λ e. absurd (cc); all = tt };
    first_from = record { numbers = tt; next = omega arith };
    second_from = record { numbers = tt; next = omega arith };
  }

  pub all_became : Became a b first.stream.clock_rate second.stream.clock_rate first.stream.number second.stream.number codec samples all_steps s t
  all_became = became a b first.stream.clock_rate second.stream.clock_rate first.stream.number second.stream.number codec samples all_steps s t begins run

  -- what happened in the run
  pub happened : Happens t.hops.wire.datagrams t.datagrams (events_of samples all_steps t) (viewer_of s.hops) (viewer_of t.hops)
  happened =
      subst (λ (rs : List Forwarded). Happens t.hops.wire.datagrams t.datagrams
      (events samples (record { sent = 0; entries = t.hops.wire.sends }) (record { sent = 0; entries = t.sends }) all_steps rs) (viewer_of s.hops) (viewer_of t.hops)) (sym all_became.results_are)
      (subst (λ (es : List SentSample). Happens t.hops.wire.datagrams t.datagrams
      (events samples (record { sent = 0; entries = t.hops.wire.sends }) (record { sent = 0; entries = es }) all_steps all_became.results) (viewer_of s.hops) (viewer_of t.hops)) (sym all_became.second_are)
      (subst (λ (es : List SentSample). Happens t.hops.wire.datagrams t.datagrams
      (events samples (record { sent = 0; entries = es }) (record { sent = 0; entries = all_became.second_later }) all_steps all_became.results) (viewer_of s.hops) (viewer_of t.hops)) (sym all_became.first_are)
      all_became.happens))

  pub walked : AreTwoSources s → AreWritten t.hops.wire.datagrams t.datagrams (reached_by forwarder) (writings (events_of samples all_steps t)) t.hops.written
  walked two =
      let w = walk a b two.differ codec t.hops.wire.datagrams t.datagrams all_became.sources_are.first.all all_became.sources_are.second.all (events_of samples all_steps t) (viewer_of s.hops) (viewer_of t.hops)
      (reached_by forwarder) (begun_at a b two.differ forwarder two.not_first two.not_second) happened in
      subst (AreWritten t.hops.wire.datagrams t.datagrams (reached_by forwarder) (writings (events_of samples all_steps t))) (sym w.whole) w.are

pub forward_switching : ForwardSwitching
forward_switching samples all_steps first second forwarder receiver t run two = walked samples all_steps first second forwarder receiver t run two
