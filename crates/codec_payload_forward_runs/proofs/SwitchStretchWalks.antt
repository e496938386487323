-- What a forwarder writes in a run with any number of switches: one stream of stretches.
use Rattle.std.proofs.Common.{◌≡◌, ◌∙◌, refl, sym, ap, subst, ℕ, ◌+◌, ◌-◌, ◌%◌, ◌<◌, ◌≤◌, max, List, [], ◌∷◌, ◌++◌, append_assoc, length-append, Bool, true, false, cond, Some, None, Result, Ok, length, map, arith}
use Rattle.std.specs.Prelude.{slice_get, take}
use Rattle.std.specs.Option.{option_map}
use Rattle.std.proofs.lemmas.List.{length-map}
use Rattle.std.proofs.lemmas.Option.{slice_get-map, slice_get_within}
use Rattle.codec_payload_rtp.specs.RtpPackets.{Packet}
use Rattle.codec_payload_rtp.specs.RtpReading.{rtp_at}
use Rattle.codec_payload_rtp.specs.declared.rtp.RtpError.{RtpError}
use Rattle.codec_payload_sending_forward.specs.Forwarding.{Forward, IsWritten}
use Rattle.codec_payload_datagram_runs.proofs.RepeatLemmas.{From}
use Rattle.codec_payload_datagram_runs.proofs.StepLemmas.{get_append}
use Rattle.codec_payload_forward_runs.proofs.SwitchLemmas.{all_became, walked}
use Rattle.codec_payload_forward_runs.proofs.SwitchStreams.{IsOn, begins_on, goes_on, same_source, seq_is}
use Rattle.codec_payload_forward_runs.proofs.SwitchStretchSent.{size_in}
use Rattle.codec_payload_forward_runs.proofs.SwitchViews.{get_drop, get_right, get_take}
use Rattle.codec_payload_forward_runs.specs.ForwardReleases.{viewer_bytes, viewer_datagram, viewer_packet}
use Rattle.codec_payload_forward_runs.specs.ForwardRuns.{packet_read}
use Rattle.codec_payload_forward_runs.specs.LeaveReleases.{AreAt}
use Rattle.codec_payload_forward_runs.specs.SwitchReleases.{AreWritten, Continues, IsPacketAt, Reached, Reaches, Writing, datagrams_of, reached_by}
use Rattle.codec_payload_forward_runs.specs.SwitchStretches.{AreNear, AreViewed, IsNear, IsStreamOf, Stretch, ViewedStretch, WriteStretches, datagrams_in, datagrams_viewed, no_stretch, number_in, place_of, places_from, stretch_after, stretches_from, stretches_in}
use Rattle.codec_payload_forward_runs.specs.SwitchUnits.{writings_of}
use Rattle.codec_payload_forward_runs.specs.declared.switch_run.Source.{Source}
use Rattle.codec_payload_forward_runs.specs.declared.switch_run.Source.TheVariants as sources

-- the datagram of a packet, as the viewer gets it
datagram_is : (f : Forward) (d bytes : List ℕ) (p : Packet) → rtp_at d ≡ Ok p → IsWritten (viewer_packet f p) bytes → viewer_datagram f d ≡ bytes
datagram_is f d bytes p is written = ap (λ (r : Result Packet RtpError). viewer_bytes f (packet_read r)) is ∙ sym written.0

shown_at : (f : Forward) (ds : List (List ℕ)) (k : ℕ) (d bytes : List ℕ) → slice_get ds k ≡ Some d → viewer_datagram f d ≡ bytes → slice_get (map (viewer_datagram f) ds) k ≡ Some bytes
shown_at f ds k d bytes there is = slice_get-map (viewer_datagram f) ds k ∙ (ap (option_map (viewer_datagram f)) there ∙ ap (λ (b : List ℕ). Some b) is)

none_first : {X : Type 0} (x : X) → None ≡ Some x → ⊥
none_first x e = cc

module _ (first second : List (List ℕ)) (first_number second_number : ℕ) (from_first : From first_number first) (from_second : From second_number second) where
  abbrev low_of : Source → ℕ
  low_of source = number_in source first_number second_number

  abbrev sent_of : Source → List (List ℕ)
  sent_of source = datagrams_of source first second

  from_of : (source : Source) → From (number_in source first_number second_number) (datagrams_of source first second)
  from_of sources.First = from_first
  from_of sources.Second = from_second

  -- a written datagram is in the viewer's stream, at its place
  at_place : (front : List (List ℕ)) (f : Forward) (g : Stretch) (rest : List (List ℕ)) (k : ℕ) (p : Packet) (bytes : List ℕ) → length front ≡ g.base → IsPacketAt (datagrams_of g.source first second) k p
      → IsWritten (viewer_packet f p) bytes → g.first ≤ k → k < g.past → slice_get (front ++ (map (viewer_datagram f) (datagrams_in first second g) ++ rest)) (place_of g k) ≡ Some bytes
  at_place front f g rest k p bytes size there written from below =
      let shown : List (List ℕ) = map (viewer_datagram f) (datagrams_in first second g) in
      ap (λ (n : ℕ). slice_get (front ++ (shown ++ rest)) (n + (k - g.first))) (sym size)
      ∙ (get_right front (shown ++ rest) (k - g.first)
      ∙ get_append shown rest (k - g.first) bytes
      (shown_at f (datagrams_in first second g) (k - g.first) there.0 bytes
      (get_drop k g.first (take g.past (sent_of g.source)) there.0 from (get_take k g.past (sent_of g.source) there.0 below there.1)) (datagram_is f there.0 bytes p there.2 written)))

  module _ (number : ℕ) (settings_of : Forward) where
    -- the present stretch
    record OnStretch (g : Stretch) (r : Reached) : Type 0 where
      high : ℕ
      past : g.past ≡ high + 1
      on : IsOn g.source (number_in g.source first_number second_number) g.first high r
      base : r.lowest ≡ number + g.base
      sent : g.past ≤ length (datagrams_of g.source first second)
      settings : r.forwarder.settings ≡ settings_of.settings

    -- what the rest of a run makes: these stretches, and these places
    record Walked (front : List (List ℕ)) (g : Stretch) (f : Forward) (gs : List Stretch) (bytes : List (List ℕ)) (places : List ℕ) : Type 0 where
      past : ℕ
      high : g.past ≤ past
      sent : past ≤ length (datagrams_of g.source first second)
      later : List ViewedStretch
      are : (record g { past = past } ∷ stretches_in later) ≡ gs
      all : AreViewed first second first_number second_number number settings_of (g.base + (past - g.first)) later
      written : AreAt (front ++ datagrams_viewed first second (record { stretch = record g { past = past }; forwarder = f } ∷ later)) bytes places

    -- the forwarder begins a stretch, behind other datagrams
    begins_one : (front : List (List ℕ)) (source : Source) (base k : ℕ) (gs : List Stretch) (more : List (List ℕ)) (places : List ℕ) (p : Packet) (bytes : List ℕ) (next : Reached)
        → length front ≡ base → IsPacketAt (datagrams_of source first second) k p → IsWritten (viewer_packet next.forwarder p) bytes
        → OnStretch (record { source = source; base = base; first = k; past = k + 1 }) next → Walked front (record { source = source; base = base; first = k; past = k + 1 }) next.forwarder gs more places
        → Walked front (record { source = source; base = base; first = k; past = k + 1 }) next.forwarder gs (bytes ∷ more) ((base + (k - k)) ∷ places)
    begins_one front source base k gs more places p bytes next size there written on rest = record {
      past = rest.past;
      high = rest.high;
      sent = rest.sent;
      later = rest.later;
      are = rest.are;
      all = rest.all;
      written = (
        at_place front next.forwarder (record { source = source; base = base; first = k; past = rest.past }) (datagrams_viewed first second rest.later) k p bytes size there written (omega arith) (omega (arith, rest.high)),
        rest.written,
      );
    }

    walk_one : (front : List (List ℕ)) (g : Stretch) (ws : List Writing) (more : List (List ℕ)) (source : Source) (k : ℕ) (b : Bool) (p : Packet) (bytes : List ℕ) (r next : Reached)
        → IsPacketAt (datagrams_of source first second) k p → Reaches b source p r next → IsWritten (viewer_packet next.forwarder p) bytes → OnStretch g r → IsNear b k g → length front ≡ g.base
        → ((front_then : List (List ℕ)) → OnStretch (stretch_after b source k g) next → length front_then ≡ (stretch_after b source k g).base
        → Walked front_then (stretch_after b source k g) next.forwarder (stretches_from first second (stretch_after b source k g) ws) more (places_from (stretch_after b source k g) ws))
        → Walked front g r.forwarder (cond b (g ∷ []) [] ++ stretches_from first second (stretch_after b source k g) ws) (bytes ∷ more)
        (place_of (stretch_after b source k g) k ∷ places_from (stretch_after b source k g) ws)
    walk_one front g ws more source k false p bytes r next there reaches written on near size later =
        let same : source ≡ g.source = same_source source g.source r reaches.source_is on.on.source_is in
        let here : IsPacketAt (datagrams_of g.source first second) k p = subst (λ (x : Source). IsPacketAt (datagrams_of x first second) k p) same there in
        let seq : p.header.sequence_number ≡ (low_of g.source + k) % 65536 = seq_is (low_of g.source) k (sent_of g.source) p (from_of g.source) here in
        let on_it : Continues g.source p r next = subst (λ (x : Source). Continues x p r next) same reaches in
        let goes = goes_on g.source (low_of g.source) g.first on.high k p r next on.on on_it seq (omega (arith, on.past, near.0)) (omega (arith, on.past, near.1)) in
        let then : OnStretch (record g { past = max g.past (k + 1) }) next = record {
          high = max on.high k;
          past = omega (arith, on.past);
          on = goes.on;
          base = ap (λ (x : Reached). x.lowest) reaches.goes_on ∙ on.base;
          sent = omega (arith, on.sent, slice_get_within (sent_of g.source) k here.0 here.1);
          settings = ap (λ (f : Forward). f.settings) goes.same ∙ on.settings;
        } in
        let rest = later front then size in
        let f_is : next.forwarder ≡ r.forwarder = goes.same in
        record {
          past = rest.past;
          high = omega (arith, rest.high);
          sent = rest.sent;
          later = rest.later;
          are = rest.are;
          all = rest.all;
          written = (
            at_place front r.forwarder (record g { past = rest.past }) (datagrams_viewed first second rest.later) k p bytes size here
                (subst (λ (f : Forward). IsWritten (viewer_packet f p) bytes) f_is written) goes.from (omega (arith, rest.high)),
            subst (λ (f : Forward).
                AreAt (front ++ datagrams_viewed first second (record { stretch = record g { past = rest.past }; forwarder = f } ∷ rest.later)) more (places_from (record g { past = max g.past (k + 1) }) ws)) f_is rest.written,
          );
        }
    walk_one front g ws more source k true p bytes r next there reaches written on near size later =
        let seq : p.header.sequence_number ≡ (low_of source + k) % 65536 = seq_is (low_of source) k (sent_of source) p (from_of source) there in
        let begun : IsOn source (low_of source) k k next = begins_on source (low_of source) k p r next reaches seq in
        let base : ℕ = g.base + (g.past - g.first) in
        let lowest : next.lowest ≡ number + base = omega (arith, reaches.lowest, on.on.place, on.base, on.past, on.on.from) in
        let settings : next.forwarder.settings ≡ settings_of.settings = reaches.settings ∙ on.settings in
        let then : OnStretch (record { source = source; base = base; first = k; past = k + 1 }) next = record {
          high = k;
          past = refl;
          on = begun;
          base = lowest;
          sent = omega (arith, slice_get_within (sent_of source) k there.0 there.1);
          settings = settings;
        } in
        let shown : List (List ℕ) = map (viewer_datagram r.forwarder) (datagrams_in first second g) in
        let count : length (front ++ shown) ≡ base =
        length-append front shown ∙ omega (arith, size, length-map (datagrams_in first second g) (viewer_datagram r.forwarder), size_in first second g on.sent) in
        let rest = begins_one (front ++ shown) source base k (stretches_from first second (stretch_after true source k g) ws) more (places_from (stretch_after true source k g) ws) p bytes next count there written then
        (later (front ++ shown) then count) in
        record {
          past = g.past;
          high = omega arith;
          sent = on.sent;
          later = record { stretch = record { source = source; base = base; first = k; past = rest.past }; forwarder = next.forwarder } ∷ rest.later;
          are = ap (λ (gs : List Stretch). g ∷ gs) rest.are;
          all = (record { settings = settings; base = refl; some = omega (arith, rest.high); sent = rest.sent; number_is = omega (arith, begun.low_is, lowest) }, rest.all);
          written = subst (λ (ds : List (List ℕ)). AreAt ds (bytes ∷ more) ((base + (k - k)) ∷ places_from (stretch_after true source k g) ws)) (append_assoc front shown _) rest.written;
        }

    walk : (front : List (List ℕ)) (g : Stretch) (ws : List Writing) (bytes : List (List ℕ)) (r : Reached) → AreWritten first second r ws bytes → OnStretch g r → AreNear g ws → length front ≡ g.base
        → Walked front g r.forwarder (stretches_from first second g ws) bytes (places_from g ws)
    walk front g [] [] r are on near size = record { past = length (sent_of g.source); high = on.sent; sent = omega arith; later = []; are = refl; all = tt; written = tt }
    walk front g [] (b ∷ more) r are on near size = absurd are
    walk front g (w ∷ ws) [] r are on near size = absurd are
    walk front g (w ∷ ws) (b ∷ more) r are on near size =
        walk_one front g ws more w.source w.datagram w.begins are.0 b r are.1 are.2 are.3 are.4 on near.0 size
        (λ front_then on_then size_then. walk front_then (stretch_after w.begins w.source w.datagram g) ws more are.1 are.5 on_then near.1 size_then)

  -- The whole run

  record Begun (f : Forward) (gs : List Stretch) (bytes : List (List ℕ)) (places : List ℕ) : Type 0 where
    number : ℕ
    viewed : List ViewedStretch
    are : stretches_in viewed ≡ gs
    all : AreViewed first second first_number second_number number f 0 viewed
    written : AreAt (datagrams_viewed first second viewed) bytes places

  first_one : (f : Forward) (ws : List Writing) (more : List (List ℕ)) (source : Source) (k : ℕ) (b : Bool) (p : Packet) (bytes : List ℕ) (next : Reached) → IsPacketAt (datagrams_of source first second) k p
      → Reaches b source p (reached_by f) next → IsWritten (viewer_packet next.forwarder p) bytes → AreWritten first second next ws more → AreNear (stretch_after b source k no_stretch) ws
      → Begun f (stretches_from first second (stretch_after b source k no_stretch) ws) (bytes ∷ more) (place_of (stretch_after b source k no_stretch) k ∷ places_from (stretch_after b source k no_stretch) ws)
  first_one f ws more source k false p bytes next there reaches written are near = absurd (none_first source reaches.source_is)
  first_one f ws more source k true p bytes next there reaches written are near =
      let seq : p.header.sequence_number ≡ (low_of source + k) % 65536 = seq_is (low_of source) k (sent_of source) p (from_of source) there in
      let begun : IsOn source (low_of source) k k next = begins_on source (low_of source) k p (reached_by f) next reaches seq in
      let g : Stretch = record { source = source; base = 0; first = k; past = k + 1 } in
      let then : OnStretch next.lowest f (record { source = source; base = 0; first = k; past = k + 1 }) next = record {
        high = k;
        past = refl;
        on = begun;
        base = omega arith;
        sent = omega (arith, slice_get_within (sent_of source) k there.0 there.1);
        settings = reaches.settings;
      } in
      let rest = begins_one next.lowest f [] source 0 k (stretches_from first second g ws) more (places_from g ws) p bytes next refl there written then (walk next.lowest f [] g ws more next are then near refl) in
      record {
        number = next.lowest;
        viewed = record { stretch = record { source = source; base = 0; first = k; past = rest.past }; forwarder = next.forwarder } ∷ rest.later;
        are = rest.are;
        all = (record { settings = reaches.settings; base = refl; some = omega (arith, rest.high); sent = rest.sent; number_is = omega (arith, begun.low_is) }, rest.all);
        written = rest.written;
      }

  pub stream_of : (f : Forward) (ws : List Writing) (bytes : List (List ℕ)) → AreWritten first second (reached_by f) ws bytes → AreNear no_stretch ws → IsStreamOf first second first_number second_number f ws bytes
  stream_of f [] [] are near = record { number = 0; viewed = []; are = refl; all = tt; written = tt }
  stream_of f [] (b ∷ more) are near = absurd are
  stream_of f (w ∷ ws) [] are near = absurd are
  stream_of f (w ∷ ws) (b ∷ more) are near =
      let one = first_one f ws more w.source w.datagram w.begins are.0 b are.1 are.2 are.3 are.4 are.5 near.1 in
      record { number = one.number; viewed = one.viewed; are = one.are; all = one.all; written = one.written }

pub write_stretches : WriteStretches
write_stretches samples all_steps first second forwarder receiver t run two near =
    let became = all_became samples all_steps first second forwarder receiver t run in
    stream_of t.hops.wire.datagrams t.datagrams first.stream.number second.stream.number became.sources_are.first_from.numbers became.sources_are.second_from.numbers forwarder (writings_of samples all_steps t)
    t.hops.written (walked samples all_steps first second forwarder receiver t run two) near
