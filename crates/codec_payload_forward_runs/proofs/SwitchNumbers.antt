-- What a forwarder writes that goes over from one source to another: numbers and times.
use Rattle.std.proofs.Common.{◌≡◌, ◌∙◌, refl, sym, ap, subst, ℕ, suc, ◌+◌, ◌-◌, ◌%◌, ◌<◌, ◌≤◌, ◌^◌, max, List, [], ◌++◌, Bool, true, false, Option, Some, None, Ok, length, arith, ◌⊎◌, inl, inr}
use Rattle.std.specs.Prelude.{nat_le, nat_lt}
use Rattle.std.specs.Option.{is_some}
use Rattle.std.proofs.lemmas.Bool.{eqb-true, leb-false, leb-true, ltb-false, ltb-true}
use Rattle.codec_payload_base.specs.Extended.{ahead, nearest}
use Rattle.codec_payload_base.specs.declared.wire.Codec.{Codec}
use Rattle.codec_payload_rtp.specs.RtpPackets.{Packet, packet_bytes}
use Rattle.codec_payload_rtp.specs.RtpReading.{rtp_at}
use Rattle.codec_payload_sending_forward.proofs.MapLemmas.{young_by}
use Rattle.codec_payload_sending_forward.specs.Forwarding.{Forward, Forwards, after_begin, after_next, is_source, number_in, ticks_between, written_when}
use Rattle.codec_payload_sending_forward.specs.Numbers.{Numbers, after_packet, is_too_old, next_number, placed}
use Rattle.codec_payload_sending_forward.specs.Times.{later, time_as}
use Rattle.codec_payload_sending_forward.specs.declared.forwarder.Forwarded.{Forwarded}
use Rattle.codec_payload_sending_forward.specs.declared.forwarder.Forwarded.TheVariants as answers
use Rattle.codec_payload_sending_forward.specs.declared.renumbering.Placed.TheVariants as places
use Rattle.codec_payload_forward_runs.proofs.ViewerLemmas.{DoesOne, HasNone, IsOf, does_one, left_stay, ids_stay, low_number, offset_stays, same_viewer, switched_none}
use Rattle.codec_payload_forward_runs.specs.ForwardReleases.{viewer_packet}
use Rattle.codec_payload_forward_runs.specs.ForwardRuns.{written_by}
use Rattle.codec_payload_forward_runs.specs.SwitchReleases.{AreWritten, IsPacketAt, Reached, Writing, datagrams_of, writing_of}
use Rattle.codec_payload_forward_runs.specs.declared.switch_run.Source.{Source}
use Rattle.codec_payload_forward_runs.specs.declared.switch_run.Source.TheVariants as sources

-- Numbers

-- a number that is sent is not too old
pub sent_young : (m : Numbers) (n sent : ℕ) → placed m n true ≡ places.Sent sent → is_too_old m n ≡ false
sent_young m n sent is = by (is_too_old m n) refl
  where
    by : (old : Bool) → is_too_old m n ≡ old → is_too_old m n ≡ false
    by true e = absurd (let none : places.TooOld ≡ places.Sent sent = subst (λ p. p ≡ places.Sent sent) (rw e refl) is in cc)
    by false e = e

-- an extended number is at most 32,768 above the one before
above_by : (b : Bool) (previous number : ℕ) → nat_le (ahead 65536 previous number) 32768 ≡ b → 65536 ≤ previous → nearest 65536 previous number ≤ previous + 32768
above_by true previous number is low = let few : ahead 65536 previous number ≤ 32768 = leb-true (ahead 65536 previous number) 32768 is in rw is (omega (arith, few))
above_by false previous number is low = let many : 32768 < ahead 65536 previous number = leb-false (ahead 65536 previous number) 32768 is in rw is (omega (arith, many, low))

near_above : (previous number : ℕ) → 65536 ≤ previous → nearest 65536 previous number ≤ previous + 32768
near_above previous number low = above_by (nat_le (ahead 65536 previous number) 32768) previous number refl low

-- the map after a packet that is sent
after_sent : (m : Numbers) (n : ℕ) → is_too_old m n ≡ false → (m.first ≤ m.highest)
    → ((after_packet n true m).highest ≡ max m.highest n) × ((after_packet n true m).first ≡ m.first)
after_sent m n young low = by (nat_lt m.highest n) refl
  where
    by : (up : Bool) → nat_lt m.highest n ≡ up → ((after_packet n true m).highest ≡ max m.highest n) × ((after_packet n true m).first ≡ m.first)
    by true e = let l = ltb-true m.highest n e in rw (young, e) (omega (arith, l), refl)
    by false e = let l = ltb-false m.highest n e in rw (young, e) (omega (arith, l), refl)

ticks_few : (last : Option ℕ) (now : ℕ) → ticks_between last now < 2 ^ 31
ticks_few None now = omega arith
ticks_few (Some last) now = omega arith

ticks_some : (last : Option ℕ) (now : ℕ) → is_some last ≡ true → 0 < ticks_between last now
ticks_some None now some = absurd (cc)
ticks_some (Some last) now some = omega arith

still_some : (ahead_is : Bool) (now : ℕ) (last : Option ℕ) → is_some last ≡ true → is_some (written_when ahead_is now last) ≡ true
still_some true now last some = refl
still_some false now last some = some

-- Sources

abbrev pub ssrc_of : Source → ℕ → ℕ → ℕ
ssrc_of sources.First a b = a
ssrc_of sources.Second a b = b

-- whether an SSRC is that of one of the sources
abbrev pub IsEither : ℕ → ℕ → Option ℕ → Type 0
IsEither a b source = (is_source source a ≡ true) ⊎ (is_source source b ≡ true)

same_source : (o : Option ℕ) (x y : ℕ) → o ≡ Some x → is_source o y ≡ true → x ≡ y
same_source o x y is on = eqb-true x y (sym (ap (λ (p : Option ℕ). is_source p y) is) ∙ on)

which : (a b : ℕ) → (a ≡ b → ⊥) → (x y : Source) → ssrc_of x a b ≡ ssrc_of y a b → x ≡ y
which a b differ sources.First sources.First same = refl
which a b differ sources.First sources.Second same = absurd (differ same)
which a b differ sources.Second sources.First same = absurd (differ (sym same))
which a b differ sources.Second sources.Second same = refl

-- What is known of a forwarder

module _ (a b : ℕ) (differ : a ≡ b → ⊥) (codec : Codec) where
  abbrev On : Option ℕ → Type 0
  On = IsEither a b

  -- a forwarder that forwards one of the sources, and the viewer's stream so far
  pub record IsOn (f : Forward) (r : Reached) : Type 0 where
    pub source : Source
    pub source_is : r.source ≡ Some source
    pub ssrc_is : f.source ≡ Some (ssrc_of source a b)
    pub offset : f.numbers.offset ≡ r.forwarder.numbers.offset
    pub times : f.times.offset ≡ r.forwarder.times.offset
    pub ids : f.ids.offsets ≡ r.forwarder.ids.offsets
    pub none_left : f.numbers.left_out ≡ []
    pub none_closed : f.ids.left_out ≡ []
    pub base : 65536 ≤ f.numbers.first
    pub from : f.numbers.first ≤ f.numbers.highest
    pub place : f.numbers.highest + r.lowest ≡ r.top + f.numbers.first
    pub low : r.lowest % 65536 ≡ (f.numbers.first + f.numbers.offset) % 65536
    pub wrote : is_some f.written_at ≡ true

  -- a forwarder and the viewer's stream so far
  pub record IsAt (f : Forward) (r : Reached) : Type 0 where
    pub settings : f.settings ≡ r.forwarder.settings
    pub codec_is : f.settings.codec ≡ codec
    pub next : next_number f.numbers ≡ (r.top + 1) % 65536
    pub latest : f.times.highest ≡ r.latest
    pub wrote : is_some f.written_at ≡ r.wrote
    pub on : On f.source → IsOn f r

  module _ (first second : List (List ℕ)) where
    -- what is written for a packet
    pub record Writes (source : Source) (k : ℕ) (answer : Forwarded) (bytes : List ℕ) (r : Reached) (t : Forward) : Type 0 where
      pub next : Reached
      pub at : IsAt t next
      pub writes : (more : List Writing) (rest : List (List ℕ)) → AreWritten first second next more rest
          → AreWritten first second r (writing_of source k answer ++ more) (written_by answer bytes ++ rest)

    writes_nothing : (source : Source) (k : ℕ) (answer : Forwarded) (bytes : List ℕ) (f : Forward) (r : Reached) (t : Forward) → writing_of source k answer ≡ [] → written_by answer bytes ≡ [] → t ≡ f
        → IsAt f r → Writes source k answer bytes r t
    writes_nothing source k answer bytes f r t none nothing same at = record {
      next = r;
      at = subst (λ (x : Forward). IsAt x r) (sym same) at;
      writes = λ more rest are. subst (λ (ws : List Writing). AreWritten first second r (ws ++ more) (written_by answer bytes ++ rest)) (sym none)
          (subst (λ (bs : List (List ℕ)). AreWritten first second r more (bs ++ rest)) (sym nothing) are);
    }

    -- the packet with which the forwarder begins
    abbrev after_switch : Source → Forward → ℕ → Reached → Forward → Reached
    after_switch source f now r t = record { source = Some source; forwarder = t; lowest = r.top + 1; top = r.top + 1; latest = (r.latest + ticks_between f.written_at now) % 2 ^ 32; wrote = true }

    begun : (source : Source) (k now : ℕ) (p : Packet) (f : Forward) (bytes : List ℕ) (r : Reached) (t : Forward) → IsOf false (ssrc_of source a b) codec p → IsPacketAt (datagrams_of source first second) k p → IsAt f r
        → t ≡ after_begin now p f → (bytes ≡ packet_bytes (viewer_packet t p)) × (rtp_at bytes ≡ Ok (viewer_packet t p)) → Writes source k answers.Began bytes r t
    begun source k now p f bytes r t of there at is written =
        let ticks : ℕ = ticks_between f.written_at now in
        let number : t.numbers ≡ (after_begin now p f).numbers = ap (λ (x : Forward). x.numbers) is in
        let offset : t.numbers.offset ≡ (next_number f.numbers + 65536 - (65536 + p.header.sequence_number) % 65536) % 65536 = ap (λ (x : Forward). x.numbers.offset) is in
        let highest : t.numbers.highest ≡ 65536 + p.header.sequence_number = ap (λ (x : Forward). x.numbers.highest) is in
        let lowest : t.numbers.first ≡ 65536 + p.header.sequence_number = ap (λ (x : Forward). x.numbers.first) is in
        let none : t.numbers.left_out ≡ [] = ap (λ (x : Forward). x.numbers.left_out) is in
        let moved : t.times.offset ≡ ((f.times.highest + ticks) % 4294967296 + (4294967296 - p.header.timestamp)) % 4294967296 = ap (λ (x : Forward). x.times.offset) is in
        let latest : t.times.highest ≡ (f.times.highest + ticks) % 4294967296 = ap (λ (x : Forward). x.times.highest) is in
        let settings : t.settings ≡ f.settings = ap (λ (x : Forward). x.settings) is in
        let next : Reached = after_switch source f now r t in
        record {
          next = next;
          at = record {
            settings = refl;
            codec_is = ap (λ (s : _). s.codec) settings ∙ at.codec_is;
            next = ap (λ (xs : List ℕ). (suc t.numbers.highest + t.numbers.offset + 65536 - length xs) % 65536) none ∙ omega (arith, highest, offset, at.next, of.number);
            latest = latest ∙ ap (λ (n : ℕ). (n + ticks) % 4294967296) at.latest;
            wrote = ap (λ (x : Forward). is_some x.written_at) is;
            on = λ on. record {
              source = source;
              source_is = refl;
              ssrc_is = ap (λ (x : Forward). x.source) is ∙ ap (λ (n : ℕ). Some n) of.source;
              offset = refl;
              times = refl;
              ids = refl;
              none_left = none;
              none_closed = ap (λ (x : Forward). x.ids.left_out) is ∙ switched_none _ f.ids;
              base = omega (arith, lowest);
              from = omega (arith, lowest, highest);
              place = omega (arith, lowest, highest);
              low = omega (arith, lowest, offset, at.next, of.number);
              wrote = ap (λ (x : Forward). is_some x.written_at) is;
            };
          };
          writes = λ more rest are. (
            p,
            next,
            there,
            record {
              source_is = refl;
              settings = settings ∙ at.settings;
              lowest = refl;
              top = refl;
              ticks = ticks;
              few = ticks_few f.written_at now;
              some = λ wrote. ticks_some f.written_at now (at.wrote ∙ wrote);
              latest = refl;
              wrote = refl;
              number = omega (arith, offset, at.next, of.number);
              time = omega (arith, moved, at.latest, of.time);
            },
            written,
            are,
          );
        }

    -- a later packet
    abbrev after_more : ℕ → Packet → Reached → Reached
    after_more number p r = record r { top = max r.top number; latest = later r.latest (viewer_packet r.forwarder p).header.timestamp }

    continued : (source : Source) (k now sent : ℕ) (p : Packet) (f : Forward) (bytes : List ℕ) (r : Reached) (t : Forward) → IsOf false (ssrc_of source a b) codec p → IsPacketAt (datagrams_of source first second) k p
        → IsAt f r → IsOn f r → is_source f.source (ssrc_of source a b) ≡ true → placed f.numbers (number_in f p) true ≡ places.Sent sent
        → t ≡ after_next now p f → (bytes ≡ packet_bytes (viewer_packet t p)) × (rtp_at bytes ≡ Ok (viewer_packet t p)) → Writes source k answers.Written bytes r t
    continued source k now sent p f bytes r t of there at on_f is_on place is written =
        let same_is : on_f.source ≡ source = which a b differ on_f.source source (same_source f.source (ssrc_of on_f.source a b) (ssrc_of source a b) on_f.ssrc_is is_on) in
        let n : ℕ = number_in f p in
        let young = sent_young f.numbers n sent place in
        let near = young_by f.numbers n young in
        let high = near_above f.numbers.highest p.header.sequence_number (omega (arith, on_f.base, on_f.from)) in
        let low : n % 65536 ≡ p.header.sequence_number % 65536 = low_number f.numbers.highest p.header.sequence_number in
        let map_is = after_sent f.numbers n young on_f.from in
        let stays = offset_stays f.numbers n in
        let numbers : t.numbers ≡ after_packet n true f.numbers = ap (λ (x : Forward). x.numbers) is in
        let highest : t.numbers.highest ≡ max f.numbers.highest n = ap (λ (m : Numbers). m.highest) numbers ∙ map_is.0 in
        let lowest : t.numbers.first ≡ f.numbers.first = ap (λ (m : Numbers). m.first) numbers ∙ map_is.1 in
        let offset : t.numbers.offset ≡ f.numbers.offset = ap (λ (m : Numbers). m.offset) numbers ∙ stays.0 in
        let none : t.numbers.left_out ≡ [] = ap (λ (m : Numbers). m.left_out) numbers ∙ (stays.1 ∙ on_f.none_left) in
        let times : t.times.offset ≡ f.times.offset = ap (λ (x : Forward). x.times.offset) is in
        let ids : t.ids.offsets ≡ f.ids.offsets = ap (λ (x : Forward). x.ids.offsets) is ∙ ids_stay (nat_lt f.numbers.highest n) (nat_lt f.latest n) f.settings.codec n p.payload f.ids in
        let settings : t.settings ≡ f.settings = ap (λ (x : Forward). x.settings) is in
        let number : ℕ = n + r.lowest - f.numbers.first in
        let next : Reached = after_more number p r in
        let same : viewer_packet t p ≡ viewer_packet r.forwarder p =
        same_viewer r.forwarder t p (settings ∙ at.settings) (offset ∙ on_f.offset) (times ∙ on_f.times) (ids ∙ on_f.ids) in
        let some : is_some t.written_at ≡ true = ap (λ (x : Forward). is_some x.written_at) is ∙ still_some (nat_lt f.numbers.highest n) now f.written_at on_f.wrote in
        let time : time_as f.times p.header.timestamp ≡ (viewer_packet r.forwarder p).header.timestamp = ap (λ (o : ℕ). (p.header.timestamp + o) % 4294967296) on_f.times in
        record {
          next = next;
          at = record {
            settings = settings ∙ at.settings;
            codec_is = ap (λ (s : _). s.codec) settings ∙ at.codec_is;
            next = ap (λ (xs : List ℕ). (suc t.numbers.highest + t.numbers.offset + 65536 - length xs) % 65536) none
                ∙ omega (arith, highest, offset, on_f.place, on_f.low, on_f.from, near.0);
            latest = ap (λ (x : Forward). x.times.highest) is ∙ (ap (λ (h : ℕ). later h (time_as f.times p.header.timestamp)) at.latest ∙ ap (later r.latest) time);
            wrote = some ∙ (sym on_f.wrote ∙ at.wrote);
            on = λ on. record {
              source = on_f.source;
              source_is = on_f.source_is;
              ssrc_is = ap (λ (x : Forward). x.source) is ∙ on_f.ssrc_is;
              offset = offset ∙ on_f.offset;
              times = times ∙ on_f.times;
              ids = ids ∙ on_f.ids;
              none_left = none;
              none_closed = ap (λ (x : Forward). x.ids.left_out) is ∙ (left_stay (nat_lt f.numbers.highest n) (nat_lt f.latest n) f.settings.codec n p.payload f.ids ∙ on_f.none_closed);
              base = omega (arith, lowest, on_f.base);
              from = omega (arith, lowest, highest, on_f.from);
              place = omega (arith, lowest, highest, on_f.place, on_f.from, near.0);
              low = omega (arith, lowest, offset, on_f.low);
              wrote = some;
            };
          };
          writes = λ more rest are. (
            p,
            next,
            there,
            record {
              source_is = on_f.source_is ∙ ap (λ (x : Source). Some x) same_is;
              number = number;
              low = omega (arith, on_f.offset, on_f.low, low, near.0);
              after_switch = omega (arith, near.0);
              below = omega (arith, high, on_f.place, near.0);
              above = omega (arith, on_f.place, near.0, near.1);
              goes_on = refl;
            },
            subst (λ (q : Packet). (bytes ≡ packet_bytes q) × (rtp_at bytes ≡ Ok q)) same written,
            are,
          );
        }

    on_either : (source : Source) (o : Option ℕ) → is_source o (ssrc_of source a b) ≡ true → On o
    on_either sources.First o is = inl is
    on_either sources.Second o is = inr is

    -- what is done with a packet
    pub forwards_one : (source : Source) (k now : ℕ) (p : Packet) (f : Forward) (answer : Forwarded) (bytes : List ℕ) (r : Reached) (t : Forward) → IsOf false (ssrc_of source a b) codec p
        → IsPacketAt (datagrams_of source first second) k p → IsAt f r → Forwards now p f answer bytes t → Writes source k answer bytes r t
    forwards_one source k now p f answer bytes r t of there at does = by answer does (does_one false (ssrc_of source a b) now p f answer bytes t of_codec none does)
      where
        of_codec : IsOf false (ssrc_of source a b) f.settings.codec p
        of_codec = subst (λ (c : Codec). IsOf false (ssrc_of source a b) c p) (sym at.codec_is) of

        none : HasNone false (ssrc_of source a b) f
        none is = let on_f = at.on (on_either source f.source is) in (on_f.none_left, λ e. on_f.none_closed)

        by : (x : Forwarded) → Forwards now p f x bytes t → DoesOne (ssrc_of source a b) p f x bytes t → Writes source k x bytes r t
        by answers.Began d one = let w = one.writes bytes refl in begun source k now p f bytes r t of there at d.4 (w.1, w.2)
        by answers.Written d one =
            let w = one.writes bytes refl in
            let is : is_source f.source (ssrc_of source a b) ≡ true = subst (λ (n : ℕ). is_source f.source n ≡ true) of.source d.0 in
            continued source k now d.1.0 p f bytes r t of there at (at.on (on_either source f.source is)) is d.1.1 d.2 (w.1, w.2)
        by answers.NoKeyframe d one = writes_nothing source k answers.NoKeyframe bytes f r t refl refl d.3.1 at
        by answers.OtherSource d one = writes_nothing source k answers.OtherSource bytes f r t refl refl d.2.1 at
        by answers.TooOld d one = writes_nothing source k answers.TooOld bytes f r t refl refl d.2.1 at
        by answers.LeftOut d one = writes_nothing source k answers.LeftOut bytes f r t refl refl d.2.1 at
        by answers.Filled d one = absurd d
