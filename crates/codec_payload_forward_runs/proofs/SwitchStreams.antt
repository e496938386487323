-- What a forwarder writes in a run with one switch: one stream.
use Rattle.std.proofs.Common.{◌≡◌, ◌∙◌, refl, sym, ap, subst, ℕ, zero, suc, ◌+◌, ◌%◌, ◌<◌, ◌≤◌, max, List, [], ◌∷◌, ◌++◌, Bool, true, false, cond, Some, None, arith}
use Rattle.std.specs.Prelude.{slice_get}
use Rattle.std.proofs.lemmas.Option.{same_Some}
use Rattle.codec_payload_rtp.specs.RtpPackets.{Packet}
use Rattle.codec_payload_sending_forward.specs.Forwarding.{Forward, IsWritten}
use Rattle.codec_payload_sending_history.specs.Packets.{number_in, number_of}
use Rattle.codec_payload_datagram_runs.proofs.RepeatLemmas.{From}
use Rattle.codec_payload_datagram_runs.specs.Releases.{StayWithin}
use Rattle.codec_payload_datagram_runs.specs.RestartReleases.{next_above}
use Rattle.codec_payload_forward_runs.proofs.SwitchLemmas.{all_became, walked}
use Rattle.codec_payload_forward_runs.specs.ForwardReleases.{viewer_packet}
use Rattle.codec_payload_forward_runs.specs.LeaveReleases.{ComeNear}
use Rattle.codec_payload_forward_runs.specs.SwitchReleases.{AreInPlace, AreWritten, Continues, IsInStream, IsOneStream, IsPacketAt, Reached, Reaches, Switches, SwitchesOnce, WriteOneStream, Writing, begun_with, cut_of, datagrams_of, events_of, first_in, of_source, offsets_in, place_in, reached_by, start_of, writings, written_of}
use Rattle.codec_payload_forward_runs.specs.declared.switch_run.Source.{Source}
use Rattle.codec_payload_forward_runs.specs.declared.switch_run.Source.TheVariants as sources

-- Numbers

from_at : (n k : ℕ) (ds : List (List ℕ)) (d : List ℕ) → From n ds → slice_get ds k ≡ Some d → number_in d ≡ Some ((n + k) % 65536)
from_at n k [] d from there = absurd (cc)
from_at n zero (e ∷ ds) d from there =
    let same : n ≡ n + zero = omega arith in
    subst (λ (m : ℕ). number_in d ≡ Some (m % 65536)) same (ap number_in (sym (same_Some e d there)) ∙ from.0)
from_at n (suc k) (e ∷ ds) d from there =
    let same : n + 1 + k ≡ n + suc k = omega arith in
    subst (λ (m : ℕ). number_in d ≡ Some (m % 65536)) same (from_at (n + 1) k ds d from.1 there)

pub seq_is : (n k : ℕ) (ds : List (List ℕ)) (p : Packet) → From n ds → IsPacketAt ds k p → p.header.sequence_number ≡ (n + k) % 65536
seq_is n k ds p from there = same_Some p.header.sequence_number ((n + k) % 65536) (sym (ap number_of there.2) ∙ from_at n k ds there.0 from there.1)

-- the number that is nearest to the highest one is that of the index
index_is : (lowest top begin high low offset k n s : ℕ) → top + begin ≡ lowest + high → begin ≤ high → lowest % 65536 ≡ (low + begin + offset) % 65536 → s ≡ (low + k) % 65536
    → (s + offset) % 65536 ≡ n % 65536 → lowest ≤ n → n ≤ top + 32768 → top < n + 32768 → k < high + 32768 → high ≤ k + 32767 → n + begin ≡ lowest + k
index_is lowest top begin high low offset k n s place from low_is seq is least below above up down = omega (arith, place, from, low_is, seq, is, least, below, above, up, down)

least_above : (reached first : ℕ) (ks : List ℕ) → reached ≤ next_above reached first ks
least_above reached first [] = omega arith
least_above reached first (k ∷ ks) = omega (arith, least_above (max reached (first + k + 1)) first ks)

none_some : {X : Type 0} (x : X) (xs : List X) → x ∷ xs ≡ [] → ⊥
none_some x xs e = cc

not_first : sources.Second ≡ sources.First → ⊥
not_first e = cc

head_same : {X : Type 0} (x y : X) (xs ys : List X) → x ∷ xs ≡ y ∷ ys → (x ≡ y) × (xs ≡ ys)
head_same x y xs ys e = (cc, cc)

-- A stretch: the source, the number of its first datagram, the index with which the stretch began, and the highest index
pub record IsOn (source : Source) (low begin high : ℕ) (r : Reached) : Type 0 where
  pub source_is : r.source ≡ Some source
  pub from : begin ≤ high
  pub place : r.top + begin ≡ r.lowest + high
  pub low_is : r.lowest % 65536 ≡ (low + begin + r.forwarder.numbers.offset) % 65536

pub record Goes (source : Source) (low begin high k : ℕ) (p : Packet) (r next : Reached) : Type 0 where
  pub from : begin ≤ k
  pub on : IsOn source low begin (max high k) next
  pub same : next.forwarder ≡ r.forwarder
  pub number : (viewer_packet r.forwarder p).header.sequence_number ≡ (low + k + r.forwarder.numbers.offset) % 65536

pub goes_on : (source : Source) (low begin high k : ℕ) (p : Packet) (r next : Reached) → IsOn source low begin high r → Continues source p r next → p.header.sequence_number ≡ (low + k) % 65536 → k < high + 32768
    → high ≤ k + 32767 → Goes source low begin high k p r next
goes_on source low begin high k p r next on c seq up down =
    let is : c.number + begin ≡ r.lowest + k =
    index_is r.lowest r.top begin high low r.forwarder.numbers.offset k c.number p.header.sequence_number on.place on.from on.low_is seq c.low c.after_switch c.below c.above up down in
    record {
      from = omega (arith, is, c.after_switch);
      on = subst (IsOn source low begin (max high k)) (sym c.goes_on) (record {
        source_is = on.source_is;
        from = omega (arith, on.from);
        place = omega (arith, is, on.place);
        low_is = on.low_is;
      });
      same = ap (λ (x : Reached). x.forwarder) c.goes_on;
      number = omega (arith, seq);
    }

pub begins_on : (source : Source) (low k : ℕ) (p : Packet) (r next : Reached) → Switches source p r next → p.header.sequence_number ≡ (low + k) % 65536 → IsOn source low k k next
begins_on source low k p r next w seq = record {
  source_is = w.source_is;
  from = omega arith;
  place = omega (arith, w.top, w.lowest);
  low_is = omega (arith, w.number, w.top, w.lowest, seq);
}

pub same_source : (x y : Source) (r : Reached) → r.source ≡ Some x → r.source ≡ Some y → x ≡ y
same_source x y r one two = same_Some x y (sym one ∙ two)

module _ (first second : List (List ℕ)) (low_first low_second : ℕ) (from_first : From low_first first) (from_second : From low_second second) where
  -- one datagram in its place
  record InPlace (before after : Forward) (number cut start : ℕ) (source : Source) (k : ℕ) (p : Packet) (bytes : List ℕ) : Type 0 where
    there : IsPacketAt (datagrams_of source first second) k p
    written : IsWritten (viewer_packet (offsets_in source before after) p) bytes
    within : IsInStream source cut start k
    number_is : (viewer_packet (offsets_in source before after) p).header.sequence_number ≡ (number + place_in source cut start k) % 65536

  -- After the switch

  module _ (before after : Forward) (number cut start : ℕ) (join : (number + cut) % 65536 ≡ (low_second + start + after.numbers.offset) % 65536) where
    record After (ws : List Writing) (high : ℕ) (source : Source) (k : ℕ) (p : Packet) (bytes : List ℕ) (next : Reached) : Type 0 where
      one : InPlace before after number cut start source k p bytes
      top : ℕ
      on : IsOn sources.Second low_second start top next
      same : next.forwarder ≡ after
      none : begun_with ws ≡ []
      near : StayWithin 32768 32767 top (written_of sources.Second ws)

    after_one : (ws : List Writing) (high : ℕ) (source : Source) (k : ℕ) (b : Bool) (p : Packet) (bytes : List ℕ) (r next : Reached) → IsPacketAt (datagrams_of source first second) k p → Reaches b source p r next
        → IsWritten (viewer_packet next.forwarder p) bytes → cond b (source ∷ begun_with ws) (begun_with ws) ≡ [] → IsOn sources.Second low_second start high r → r.forwarder ≡ after
        → StayWithin 32768 32767 high (of_source sources.Second source k ++ written_of sources.Second ws) → After ws high source k p bytes next
    after_one ws high source k true p bytes r next there reaches written none on same near = absurd (none_some source (begun_with ws) none)
    after_one ws high sources.First k false p bytes r next there reaches written none on same near = absurd (not_first (same_source sources.Second sources.First r on.source_is reaches.source_is))
    after_one ws high sources.Second k false p bytes r next there reaches written none on same near =
        let seq : p.header.sequence_number ≡ (low_second + k) % 65536 = seq_is low_second k second p from_second there in
        let goes = goes_on sources.Second low_second start high k p r next on reaches seq near.0 near.1 in
        let forwarder : next.forwarder ≡ after = goes.same ∙ same in
        record {
          one = record {
            there = there;
            written = subst (λ (f : Forward). IsWritten (viewer_packet f p) bytes) forwarder written;
            within = goes.from;
            number_is = subst (λ (f : Forward). (viewer_packet f p).header.sequence_number ≡ (low_second + k + f.numbers.offset) % 65536) same goes.number ∙ omega (arith, join, goes.from);
          };
          top = max high k;
          on = goes.on;
          same = forwarder;
          none = none;
          near = near.2;
        }

    after_all : (ws : List Writing) (bytes : List (List ℕ)) (high : ℕ) (r : Reached) → AreWritten first second r ws bytes → begun_with ws ≡ [] → IsOn sources.Second low_second start high r → r.forwarder ≡ after
        → StayWithin 32768 32767 high (written_of sources.Second ws) → AreInPlace first second before after number cut start ws bytes
    after_all [] [] high r are none on same near = tt
    after_all [] (b ∷ more) high r are none on same near = absurd are
    after_all (w ∷ ws) [] high r are none on same near = absurd are
    after_all (w ∷ ws) (b ∷ more) high r are none on same near =
        let a = after_one ws high w.source w.datagram w.begins are.0 b r are.1 are.2 are.3 are.4 none on same near in
        (are.0, a.one.there, a.one.written, a.one.within, a.one.number_is, after_all ws more a.top are.1 are.5 a.none a.on a.same a.near)

  -- no datagram of the first source is written then
  only_one : (ws : List Writing) (source : Source) (k : ℕ) (b : Bool) (p : Packet) (r next : Reached) → Reaches b source p r next → cond b (source ∷ begun_with ws) (begun_with ws) ≡ [] → r.source ≡ Some sources.Second
      → (of_source sources.First source k ≡ []) × (begun_with ws ≡ []) × (next.source ≡ Some sources.Second)
  only_one ws source k true p r next reaches none on = absurd (none_some source (begun_with ws) none)
  only_one ws sources.First k false p r next reaches none on = absurd (not_first (same_source sources.Second sources.First r on reaches.source_is))
  only_one ws sources.Second k false p r next reaches none on = (refl, none, ap (λ (x : Reached). x.source) reaches.goes_on ∙ on)

  only_second : (ws : List Writing) (bytes : List (List ℕ)) (r : Reached) → AreWritten first second r ws bytes → begun_with ws ≡ [] → r.source ≡ Some sources.Second → written_of sources.First ws ≡ []
  only_second [] bytes r are none on = refl
  only_second (w ∷ ws) [] r are none on = absurd are
  only_second (w ∷ ws) (b ∷ more) r are none on =
      let o = only_one ws w.source w.datagram w.begins are.0 r are.1 are.3 none on in
      ap (λ (ks : List ℕ). ks ++ written_of sources.First ws) o.0 ∙ only_second ws more are.1 are.5 o.1 o.2

  -- Before it

  module _ (before : Forward) (begin : ℕ) where
    abbrev first_number : ℕ
    first_number = low_first + before.numbers.offset

    -- what the rest of a run makes
    record Before (cut start : ℕ) (ws : List Writing) (bytes : List (List ℕ)) (r : Reached) : Type 0 where
      after : Forward
      settings : after.settings ≡ r.forwarder.settings
      in_place : AreInPlace first second before after first_number cut start ws bytes

    before_one : (cut start : ℕ) (ws : List Writing) (more : List (List ℕ)) (high : ℕ) (source : Source) (k : ℕ) (b : Bool) (p : Packet) (bytes : List ℕ) (r next : Reached)
        → IsPacketAt (datagrams_of source first second) k p → Reaches b source p r next → IsWritten (viewer_packet next.forwarder p) bytes → AreWritten first second next ws more
        → cond b (source ∷ begun_with ws) (begun_with ws) ≡ sources.Second ∷ [] → IsOn sources.First low_first begin high r → r.forwarder ≡ before
        → StayWithin 32768 32767 high (of_source sources.First source k ++ written_of sources.First ws) → ComeNear (of_source sources.Second source k ++ written_of sources.Second ws)
        → next_above (high + 1) 0 (of_source sources.First source k ++ written_of sources.First ws) ≡ cut → first_in (of_source sources.Second source k ++ written_of sources.Second ws) ≡ start
        → ((top : ℕ) → begun_with ws ≡ sources.Second ∷ [] → IsOn sources.First low_first begin top next → next.forwarder ≡ before → StayWithin 32768 32767 top (written_of sources.First ws)
        → ComeNear (written_of sources.Second ws) → next_above (top + 1) 0 (written_of sources.First ws) ≡ cut → first_in (written_of sources.Second ws) ≡ start → Before cut start ws more next)
        → (after : Forward) × (after.settings ≡ r.forwarder.settings) × InPlace before after first_number cut start source k p bytes × AreInPlace first second before after first_number cut start ws more
    before_one cut start ws more high sources.First k true p bytes r next there reaches written are begun on same near near_second cut_is start_is later =
        absurd (not_first (sym (head_same sources.First sources.Second (begun_with ws) [] begun).0))
    before_one cut start ws more high sources.Second k false p bytes r next there reaches written are begun on same near near_second cut_is start_is later =
        absurd (not_first (same_source sources.Second sources.First r reaches.source_is on.source_is))
    before_one cut start ws more high sources.First k false p bytes r next there reaches written are begun on same near near_second cut_is start_is later =
        let seq : p.header.sequence_number ≡ (low_first + k) % 65536 = seq_is low_first k first p from_first there in
        let goes = goes_on sources.First low_first begin high k p r next on reaches seq near.0 near.1 in
        let forwarder : next.forwarder ≡ before = goes.same ∙ same in
        let reached : max (high + 1) (0 + k + 1) ≡ max high k + 1 = omega arith in
        let cut_next : next_above (max high k + 1) 0 (written_of sources.First ws) ≡ cut = subst (λ (n : ℕ). next_above n 0 (written_of sources.First ws) ≡ cut) reached cut_is in
        let rest = later (max high k) begun goes.on forwarder near.2 near_second cut_next start_is in (
          rest.after,
          rest.settings ∙ ap (λ (f : Forward). f.settings) goes.same,
          record {
            there = there;
            written = subst (λ (f : Forward). IsWritten (viewer_packet f p) bytes) forwarder written;
            within = omega (arith, cut_next, least_above (max high k + 1) 0 (written_of sources.First ws));
            number_is = subst (λ (f : Forward). (viewer_packet f p).header.sequence_number ≡ (low_first + k + f.numbers.offset) % 65536) same goes.number ∙ omega arith;
          },
          rest.in_place,
        )
    before_one cut start ws more high sources.Second k true p bytes r next there reaches written are begun on same near near_second cut_is start_is later =
        let seq : p.header.sequence_number ≡ (low_second + k) % 65536 = seq_is low_second k second p from_second there in
        let none : begun_with ws ≡ [] = (head_same sources.Second sources.Second (begun_with ws) [] begun).1 in
        let at = begins_on sources.Second low_second k p r next reaches seq in
        let no_first : written_of sources.First ws ≡ [] = only_second ws more next are none at.source_is in
        let cut_high : high + 1 ≡ cut = ap (next_above (high + 1) 0) (sym no_first) ∙ cut_is in
        let offset : before.numbers.offset ≡ r.forwarder.numbers.offset = ap (λ (f : Forward). f.numbers.offset) (sym same) in
        let join : (first_number + cut) % 65536 ≡ (low_second + start + next.forwarder.numbers.offset) % 65536 =
        omega (arith, cut_high, start_is, offset, on.place, on.low_is, reaches.number, reaches.top, seq) in (
          next.forwarder,
          reaches.settings,
          record {
            there = there;
            written = written;
            within = omega (arith, start_is);
            number_is = omega (arith, join, seq, start_is);
          },
          after_all before next.forwarder first_number cut start join ws more k next are none (subst (λ (n : ℕ). IsOn sources.Second low_second n k next) start_is at) refl near_second,
        )

    before_all : (cut start : ℕ) (ws : List Writing) (bytes : List (List ℕ)) (high : ℕ) (r : Reached) → AreWritten first second r ws bytes → begun_with ws ≡ sources.Second ∷ [] → IsOn sources.First low_first begin high r
        → r.forwarder ≡ before → StayWithin 32768 32767 high (written_of sources.First ws) → ComeNear (written_of sources.Second ws) → next_above (high + 1) 0 (written_of sources.First ws) ≡ cut
        → first_in (written_of sources.Second ws) ≡ start → Before cut start ws bytes r
    before_all cut start [] bytes high r are begun on same near near_second cut_is start_is = absurd (none_some sources.Second [] (sym begun))
    before_all cut start (w ∷ ws) [] high r are begun on same near near_second cut_is start_is = absurd are
    before_all cut start (w ∷ ws) (b ∷ more) high r are begun on same near near_second cut_is start_is =
        let a = before_one cut start ws more high w.source w.datagram w.begins are.0 b r are.1 are.2 are.3 are.4 are.5 begun on same near near_second cut_is start_is
        (λ top begun_then on_then same_then near_then second_then cut_then start_then. before_all cut start ws more top are.1 are.5 begun_then on_then same_then near_then second_then cut_then start_then) in
        record { after = a.0; settings = a.1; in_place = (are.0, a.2.there, a.2.written, a.2.within, a.2.number_is, a.3) }

  -- The whole run

  begins_one : (f : Forward) (ws : List Writing) (more : List (List ℕ)) (source : Source) (k : ℕ) (b : Bool) (p : Packet) (bytes : List ℕ) (r next : Reached) (cut start : ℕ)
      → IsPacketAt (datagrams_of source first second) k p → Reaches b source p r next → IsWritten (viewer_packet next.forwarder p) bytes → AreWritten first second next ws more
      → cond b (source ∷ begun_with ws) (begun_with ws) ≡ sources.First ∷ sources.Second ∷ [] → r.source ≡ None
      → ComeNear (of_source sources.First source k ++ written_of sources.First ws) → ComeNear (of_source sources.Second source k ++ written_of sources.Second ws)
      → next_above 0 0 (of_source sources.First source k ++ written_of sources.First ws) ≡ cut → first_in (of_source sources.Second source k ++ written_of sources.Second ws) ≡ start
      → (before after : Forward) × (before.settings ≡ r.forwarder.settings) × (after.settings ≡ r.forwarder.settings) × (number : ℕ)
      × InPlace before after number cut start source k p bytes × AreInPlace first second before after number cut start ws more
  begins_one f ws more sources.Second k true p bytes r next cut start there reaches written are begun none near near_second cut_is start_is =
      absurd (not_first (head_same sources.Second sources.First (begun_with ws) (sources.Second ∷ []) begun).0)
  begins_one f ws more source k false p bytes r next cut start there reaches written are begun none near near_second cut_is start_is =
      absurd (let both : None ≡ Some source = sym none ∙ reaches.source_is in cc)
  begins_one f ws more sources.First k true p bytes r next cut start there reaches written are begun none near near_second cut_is start_is =
      let seq : p.header.sequence_number ≡ (low_first + k) % 65536 = seq_is low_first k first p from_first there in
      let at = begins_on sources.First low_first k p r next reaches seq in
      let rest_begun : begun_with ws ≡ sources.Second ∷ [] = (head_same sources.First sources.First (begun_with ws) (sources.Second ∷ []) begun).1 in
      let reached : max 0 (0 + k + 1) ≡ k + 1 = omega arith in
      let cut_next : next_above (k + 1) 0 (written_of sources.First ws) ≡ cut = subst (λ (n : ℕ). next_above n 0 (written_of sources.First ws) ≡ cut) reached cut_is in
      let rest = before_all next.forwarder k cut start ws more k next are rest_begun at refl near near_second cut_next start_is in (
        next.forwarder,
        rest.after,
        reaches.settings,
        rest.settings ∙ reaches.settings,
        low_first + next.forwarder.numbers.offset,
        record {
          there = there;
          written = written;
          within = omega (arith, cut_next, least_above (k + 1) 0 (written_of sources.First ws));
          number_is = omega (arith, seq);
        },
        rest.in_place,
      )

  pub one_stream : (f : Forward) (ws : List Writing) (bytes : List (List ℕ)) → AreWritten first second (reached_by f) ws bytes → SwitchesOnce ws → IsOneStream first second f ws bytes
  one_stream f [] bytes are once = absurd (none_some sources.First (sources.Second ∷ []) (sym once.begun))
  one_stream f (w ∷ ws) [] are once = absurd are
  one_stream f (w ∷ ws) (b ∷ more) are once =
      let a = begins_one f ws more w.source w.datagram w.begins are.0 b (reached_by f) are.1 (cut_of (w ∷ ws)) (start_of (w ∷ ws)) are.2 are.3 are.4 are.5 once.begun refl once.first_near once.second_near refl refl in
      record {
        before = a.0;
        after = a.1;
        before_settings = a.2;
        after_settings = a.3;
        number = a.4;
        in_place = (are.0, a.5.there, a.5.written, a.5.within, a.5.number_is, a.6);
      }

pub write_one_stream : WriteOneStream
write_one_stream samples all_steps first second forwarder receiver t run two once =
    let became = all_became samples all_steps first second forwarder receiver t run in
    one_stream t.hops.wire.datagrams t.datagrams first.stream.number second.stream.number became.sources_are.first_from.numbers became.sources_are.second_from.numbers forwarder
    (writings (events_of samples all_steps t)) t.hops.written (walked samples all_steps first second forwarder receiver t run two) once
