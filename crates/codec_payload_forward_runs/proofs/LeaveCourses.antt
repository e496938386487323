-- A run whose forwarder leaves whole frames out is, for the viewer's receiver, a run over one hop from the sender of the other frames.
use Rattle.std.proofs.Common.{◌≡◌, ◌∙◌, refl, sym, ap, subst, ℕ, zero, suc, ◌+◌, ◌-◌, ◌%◌, ◌^◌, ◌<◌, List, [], ◌∷◌, ◌++◌, append_assoc, Bool, true, false, ltb, ◌&&◌, Option, Some, None, MatchOption, Result, Ok, length, map, arith}
use Rattle.std.specs.Prelude.{slice_get, slice_index_or}
use Rattle.std.specs.Option.{option_map}
use Rattle.std.proofs.lemmas.Bool.{lt-ltb}
use Rattle.std.proofs.lemmas.Option.{same_Some, slice_get-map}
use Rattle.codec_payload_base.specs.declared.wire.Ticks.{Ticks}
use Rattle.codec_payload_codec.specs.Packetizers.{PacketizerState, PacketizerStep, is_built_in}
use Rattle.codec_payload_payloader.specs.Sending.{Sample}
use Rattle.codec_payload_receiver.specs.Sessions.{Session}
use Rattle.codec_payload_rtp.specs.RtpPackets.{Packet}
use Rattle.codec_payload_rtp.specs.declared.rtp.RtpError.{RtpError}
use Rattle.codec_payload_sending.specs.Senders.{Sending}
use Rattle.codec_payload_sending_forward.specs.Forwarding.{Forward, payload_for}
use Rattle.codec_payload_sending_forward.specs.Numbers.{Falls, is_in}
use Rattle.codec_payload_sending_forward.specs.declared.ids.IdOffsets.{IdOffsets}
use Rattle.codec_payload_sending_forward.specs.declared.forwarder.Forwarded.{Forwarded}
use Rattle.codec_payload_sending_forward.specs.declared.forwarder.Forwarded.TheVariants as answers
use Rattle.codec_payload_datagram_runs.proofs.StepLemmas.{get_append}
use Rattle.codec_payload_datagram_runs.specs.HistoryReleases.{delivery_of}
use Rattle.codec_payload_datagram_runs.specs.WireRuns.{Delivers, DoesStep, Receipt, Runs, Wire}
use Rattle.codec_payload_datagram_runs.specs.declared.run.DatagramStep.{DatagramStep}
use Rattle.codec_payload_datagram_runs.specs.declared.run.DatagramStep.TheVariants as seen
use Rattle.codec_payload_datagram_runs.specs.declared.run.SentSample.{SentSample}
use Rattle.codec_payload_forward_runs.proofs.LeaveEvents.{DoesSend}
use Rattle.codec_payload_forward_runs.proofs.LeaveIds.{Since, offsets_since}
use Rattle.codec_payload_forward_runs.proofs.LeaveLists.{kept_at}
use Rattle.codec_payload_forward_runs.proofs.LeaveNumbers.{Agrees, AreOut, IsOut, Stage, Wrote, off, on, out_bytes, same_out}
use Rattle.codec_payload_forward_runs.proofs.LeaveSenders.{IsBeside, left_beside, mtu_stays, sends_beside}
use Rattle.codec_payload_forward_runs.proofs.SenderLemmas.{map_append}
use Rattle.codec_payload_forward_runs.specs.ForwardReleases.{forwarded_by, viewer_sample, viewer_samples}
use Rattle.codec_payload_forward_runs.specs.ForwardRuns.{DoesPlain, Hops, packet_read}
use Rattle.codec_payload_forward_runs.specs.LeaveReleases.{AreAt, IsWhole, Offsets, closed, closed_bytes, closed_datagram, count_of, entry_unless, ids_at, leaves_sample, place_of, sends_no_ids, step_unless}

-- Lists

pub places_by : (gone : List ℕ) (answer : Forwarded) (k : ℕ) → map (place_of gone) (forwarded_by answer k) ≡ forwarded_by answer (place_of gone k)
places_by gone answers.Began k = refl
places_by gone answers.Written k = refl
places_by gone answers.NoKeyframe k = refl
places_by gone answers.OtherSource k = refl
places_by gone answers.TooOld k = refl
places_by gone answers.LeftOut k = refl
places_by gone answers.Filled k = refl

pub places_append : (gone : List ℕ) (answer : Forwarded) (k : ℕ) (ks : List ℕ) → map (place_of gone) (ks ++ forwarded_by answer k) ≡ map (place_of gone) ks ++ forwarded_by answer (place_of gone k)
places_append gone answer k ks = map_append (place_of gone) ks (forwarded_by answer k) ∙ ap (λ (js : List ℕ). map (place_of gone) ks ++ js) (places_by gone answer k)

-- what was written at an index
out_at : (since : Since) (high : ℕ) (f : Forward) (gone : List ℕ) (datagrams bs : List (List ℕ)) (ks : List ℕ) (j : ℕ) (b : List ℕ) → AreOut since high f gone datagrams bs ks → slice_get bs j ≡ Some b
    → (k : ℕ) × (slice_get ks j ≡ Some k) × IsOut since high f gone datagrams b k
out_at since high f gone datagrams [] ks j b are there = absurd (cc)
out_at since high f gone datagrams (c ∷ bs) [] j b are there = absurd are
out_at since high f gone datagrams (c ∷ bs) (k ∷ ks) zero b are there = (k, refl, subst (λ (x : List ℕ). IsOut since high f gone datagrams x k) (same_Some c b there) are.0)
out_at since high f gone datagrams (c ∷ bs) (k ∷ ks) (suc j) b are there = out_at since high f gone datagrams bs ks j b are.1 there

none_out : (since : Since) (high : ℕ) (f : Forward) (gone : List ℕ) (datagrams bs : List (List ℕ)) (ks : List ℕ) (j : ℕ) → AreOut since high f gone datagrams bs ks → slice_get bs j ≡ None → slice_get ks j ≡ None
none_out since high f gone datagrams [] [] j are none = refl
none_out since high f gone datagrams [] (k ∷ ks) j are none = absurd are
none_out since high f gone datagrams (b ∷ bs) [] j are none = absurd are
none_out since high f gone datagrams (b ∷ bs) (k ∷ ks) zero are none = absurd (cc)
none_out since high f gone datagrams (b ∷ bs) (k ∷ ks) (suc j) are none = none_out since high f gone datagrams bs ks j are.1 none

none_wrote : (st : Stage) (f : Forward) (gone : List ℕ) (datagrams bs : List (List ℕ)) (ks : List ℕ) (j : ℕ) → Wrote st f gone datagrams bs ks → slice_get bs j ≡ None → slice_get ks j ≡ None
none_wrote off f gone datagrams bs ks j wrote none = ap (λ (xs : List ℕ). slice_get xs j) wrote.1
none_wrote (on since high) f gone datagrams bs ks j wrote none = none_out since high f gone datagrams bs ks j wrote none

-- more datagrams were sent
out_more : (since : Since) (high : ℕ) (f : Forward) (gone : List ℕ) (datagrams new bs : List (List ℕ)) (ks : List ℕ) → AreOut since high f gone datagrams bs ks → AreOut since high f gone (datagrams ++ new) bs ks
out_more since high f gone datagrams new [] [] are = tt
out_more since high f gone datagrams new [] (k ∷ ks) are = absurd are
out_more since high f gone datagrams new (b ∷ bs) [] are = absurd are
out_more since high f gone datagrams new (b ∷ bs) (k ∷ ks) are = (
  record { within = are.0.within; kept = are.0.kept; datagram = are.0.datagram; packet = are.0.packet; there = get_append datagrams new k are.0.datagram are.0.there; reads = are.0.reads; is = are.0.is },
  out_more since high f gone datagrams new bs ks are.1,
)

pub wrote_more : (st : Stage) (f : Forward) (gone : List ℕ) (datagrams new bs : List (List ℕ)) (ks : List ℕ) → Wrote st f gone datagrams bs ks → Wrote st f gone (datagrams ++ new) bs ks
wrote_more off f gone datagrams new bs ks wrote = wrote
wrote_more (on since high) f gone datagrams new bs ks wrote = out_more since high f gone datagrams new bs ks wrote

-- The run of the sender of the other frames

module _ (e : Forward) (fits_type : e.settings.payload_type < 128) (fits_ssrc : e.settings.ssrc < 2 ^ 32) (rate : ℕ) (some : 0 < rate) (o : Offsets)
    (packetizer : PacketizerState) (no_ids : is_built_in packetizer ≡ true → sends_no_ids packetizer ≡ true)
    (plain : is_built_in packetizer ≡ true → (mtu : ℕ) (frame : List ℕ) (payloads : List (List ℕ)) → PacketizerStep packetizer mtu frame (Ok payloads) packetizer
    → (i : ℕ) → i < length payloads → (x : IdOffsets) → payload_for e.settings.codec x (slice_index_or payloads i []) ≡ slice_index_or payloads i [])
    (gone : List ℕ) (falls : Falls gone) (samples : List Sample) where
  abbrev pub Beside : Sending → Hops → Type 0
  Beside v s = IsBeside e fits_type fits_ssrc rate some o packetizer no_ids plain gone v s.wire.sending s.wire.datagrams

  -- what the viewer's receiver sees of a run
  abbrev pub seen_by : Hops → Sending → List SentSample → Wire
  seen_by s v entries = record s.wire { sending = v; datagrams = closed e o gone 0 o.number s.wire.datagrams; sends = entries }

  abbrev pub Goes : List DatagramStep → Wire → Wire → Type 0
  Goes = Runs (viewer_samples e rate samples)

  -- these steps lead from one to the other
  pub record Leads (all_steps : List DatagramStep) (more : List SentSample) (s t : Hops) (v : Sending) (entries : List SentSample) : Type 0 where
    pub end : Sending
    pub runs : Goes all_steps (seen_by s v entries) (seen_by t end (entries ++ more))

  -- nothing that the receiver sees changes
  pub same_leads : (all_steps : List DatagramStep) (more : List SentSample) (s mid t : Hops) (v : Sending) (entries : List SentSample) → seen_by mid v entries ≡ seen_by s v entries → Leads all_steps more mid t v entries
      → Leads all_steps more s t v entries
  same_leads all_steps more s mid t v entries same leads = record { end = leads.end; runs = subst (λ (w : Wire). Goes all_steps w (seen_by t leads.end (entries ++ more))) same leads.runs }

  -- a step of the receiver
  one_leads : (step : DatagramStep) (all_steps : List DatagramStep) (more : List SentSample) (s mid t : Hops) (v : Sending) (entries : List SentSample)
      → DoesStep (viewer_samples e rate samples) step (seen_by s v entries) (seen_by mid v entries) → Leads all_steps more mid t v entries → Leads (step ∷ all_steps) more s t v entries
  one_leads step all_steps more s mid t v entries does leads = record { end = leads.end; runs = (seen_by mid v entries, does, leads.runs) }

  -- Pops and the end

  pub pop_leads : (now : Ticks) (all_steps : List DatagramStep) (more : List SentSample) (s mid t : Hops) (v : Sending) (entries : List SentSample) → DoesPlain samples (seen.Pop now) s mid
      → Leads all_steps more mid t v entries → Leads (seen.Pop now ∷ all_steps) more s t v entries
  pop_leads now all_steps more s mid t v entries does leads =
      let wire : mid.wire ≡ record s.wire { session = does.1.1; pops = s.wire.pops ++ does.1.0 ∷ [] } = ap (λ (x : Hops). x.wire) does.2 ∙ does.1.4 in
      let seen_is : seen_by mid v entries ≡ record (seen_by s v entries) { session = does.1.1; pops = s.wire.pops ++ does.1.0 ∷ [] } =
      ap (λ (w : Wire). record w { sending = v; datagrams = closed e o gone 0 o.number w.datagrams; sends = entries }) wire in
      one_leads (seen.Pop now) all_steps more s mid t v entries (does.1.0, does.1.1, does.1.2, does.1.3, seen_is) leads

  pub end_leads : (all_steps : List DatagramStep) (more : List SentSample) (s mid t : Hops) (v : Sending) (entries : List SentSample) → DoesPlain samples seen.Finish s mid
      → Leads all_steps more mid t v entries → Leads (seen.Finish ∷ all_steps) more s t v entries
  end_leads all_steps more s mid t v entries does leads =
      let wire : mid.wire ≡ record s.wire { session = does.1.0 } = ap (λ (x : Hops). x.wire) does.2 ∙ does.1.2 in
      let seen_is : seen_by mid v entries ≡ record (seen_by s v entries) { session = does.1.0 } =
      ap (λ (w : Wire). record w { sending = v; datagrams = closed e o gone 0 o.number w.datagrams; sends = entries }) wire in
      one_leads seen.Finish all_steps more s mid t v entries (does.1.0, does.1.1, seen_is) leads

  -- Deliveries

  -- a written datagram is one of those that were not left out
  out_is : (since : Since) (high : ℕ) (f : Forward) (own : List ℕ) (datagrams : List (List ℕ)) (b : List ℕ) (k : ℕ) → Agrees o e gone (on since high) f own → IsOut since high f own datagrams b k
      → slice_get (closed e o gone 0 o.number datagrams) (place_of gone k) ≡ Some b
  out_is since high f own datagrams b k agrees out =
      let same = agrees.4 k out.within in
      let p : Packet = out.packet in
      let here : slice_get (closed e o gone 0 o.number datagrams) (place_of gone k) ≡ Some (closed_datagram e (ids_at o k) (o.number + place_of gone k) out.datagram) =
      kept_at e o gone datagrams o.number k out.datagram falls out.there (same.0 ∙ out.kept) in
      let bytes : closed_datagram e (ids_at o k) (o.number + place_of gone k) out.datagram ≡ out_bytes e.settings o e.times.offset (place_of gone k) k p =
      ap (λ (r : Result Packet RtpError). closed_bytes e (ids_at o k) (o.number + place_of gone k) (packet_read r)) out.reads in
      let moved : out_bytes e.settings o e.times.offset (place_of gone k) k p ≡ out_bytes f.settings (offsets_since since) f.times.offset (place_of own k) k p =
      same_out e.settings f.settings o (offsets_since since) e.times.offset f.times.offset (place_of gone k) (place_of own k) k p agrees.3 agrees.0 agrees.1 same.2 agrees.2 (ap (λ (n : ℕ). k - n) same.1) in
      here ∙ ap (λ (x : List ℕ). Some x) (bytes ∙ (moved ∙ sym out.is))

  -- all of them are
  pub all_at : (since : Since) (high : ℕ) (f : Forward) (own : List ℕ) (datagrams bs : List (List ℕ)) (ks : List ℕ) → Agrees o e gone (on since high) f own → AreOut since high f own datagrams bs ks
      → AreAt (closed e o gone 0 o.number datagrams) bs (map (place_of gone) ks)
  all_at since high f own datagrams [] [] agrees are = tt
  all_at since high f own datagrams [] (k ∷ ks) agrees are = absurd are
  all_at since high f own datagrams (b ∷ bs) [] agrees are = absurd are
  all_at since high f own datagrams (b ∷ bs) (k ∷ ks) agrees are = (out_is since high f own datagrams b k agrees are.0, all_at since high f own datagrams bs ks agrees are.1)

  found : (st : Stage) (f : Forward) (own : List ℕ) (datagrams bs : List (List ℕ)) (ks : List ℕ) (j : ℕ) (b : List ℕ) → Agrees o e gone st f own → Wrote st f own datagrams bs ks → slice_get bs j ≡ Some b
      → (k : ℕ) × (slice_get ks j ≡ Some k) × (slice_get (closed e o gone 0 o.number datagrams) (place_of gone k) ≡ Some b)
  found off f own datagrams bs ks j b agrees wrote there = absurd (let none : None ≡ Some b = ap (λ (xs : List (List ℕ)). slice_get xs j) (sym wrote.0) ∙ there in cc)
  found (on since high) f own datagrams bs ks j b agrees wrote there =
      let one = out_at since high f own datagrams bs ks j b wrote there in
      (one.0, one.1, out_is since high f own datagrams b one.0 agrees one.2)

  place_get : (ks : List ℕ) (j : ℕ) (x : Option ℕ) → slice_get ks j ≡ x → slice_get (map (place_of gone) ks) j ≡ option_map (place_of gone) x
  place_get ks j x is = slice_get-map (place_of gone) ks j ∙ ap (option_map (place_of gone)) is

  pub deliver_leads : (what : Option (List ℕ)) (j : ℕ) (now : Ticks) (st : Stage) (own ks : List ℕ) (all_steps : List DatagramStep) (more : List SentSample) (s mid t : Hops) (v : Sending) (entries : List SentSample)
      → slice_get s.written j ≡ what → Agrees o e gone st s.forwarder own → Wrote st s.forwarder own s.wire.datagrams s.written ks
      → MatchOption what (mid ≡ s) (λ bytes. (receipt : Receipt) × (session : Session) × Delivers now bytes s.wire.session receipt session
      × (mid ≡ record s { wire = record s.wire { session = session; receipts = s.wire.receipts ++ receipt ∷ [] } }))
      → Leads all_steps more mid t v entries → Leads (delivery_of (slice_get (map (place_of gone) ks) j) now ++ all_steps) more s t v entries
  deliver_leads None j now st own ks all_steps more s mid t v entries is agrees wrote same leads =
      let none : slice_get (map (place_of gone) ks) j ≡ None = place_get ks j None (none_wrote st s.forwarder own s.wire.datagrams s.written ks j wrote is) in
      rw none (same_leads all_steps more s mid t v entries (ap (λ (x : Hops). seen_by x v entries) same) leads)
  deliver_leads (Some bytes) j now st own ks all_steps more s mid t v entries is agrees wrote done leads =
      let one = found st s.forwarder own s.wire.datagrams s.written ks j bytes agrees wrote is in
      let there : slice_get (map (place_of gone) ks) j ≡ Some (place_of gone one.0) = place_get ks j (Some one.0) one.1 in
      let seen_is : seen_by mid v entries ≡ record (seen_by s v entries) { session = done.1; receipts = s.wire.receipts ++ done.0 ∷ [] } =
      ap (λ (x : Hops). seen_by x v entries) done.3 in
      rw there (one_leads (seen.Deliver (place_of gone one.0) now) all_steps more s mid t v entries (rw one.2 (done.0, done.1, done.2, seen_is)) leads)

  -- Samples

  -- none of the datagrams of a kept sample was left out
  kept_out : (first count : ℕ) → leaves_sample gone first count ≡ false → IsWhole gone first count → (place : ℕ) → place < count → is_in (first + place) gone ≡ false
  kept_out first count kept whole place l =
      let some : ltb 0 count ≡ true = lt-ltb 0 count (omega (arith, l)) in
      let here : is_in first gone ≡ false = sym (ap (λ (b : Bool). b && is_in first gone) some) ∙ kept in
      whole place l ∙ here

  left_in : (b c : Bool) → (b && c) ≡ true → c ≡ true
  left_in true c e = e
  left_in false c e = absurd (cc)

  pub send_leads : (i : ℕ) (what : Option Sample) (entry : Option SentSample) (left : Bool) (s mid t : Hops) (v : Sending) (entries : List SentSample) (all_steps : List DatagramStep) (more : List SentSample)
      → slice_get samples i ≡ what → leaves_sample gone (length s.wire.datagrams) (count_of entry) ≡ left → IsWhole gone (length s.wire.datagrams) (count_of entry)
      → (is_built_in packetizer ≡ true → s.wire.sending.packetizer ≡ packetizer) → s.wire.sending.stream.clock_rate ≡ rate → Beside v s → DoesSend what entry s mid
      → ((w : Sending) (es : List SentSample) → Beside w mid → Leads all_steps more mid t w es)
      → Leads (step_unless left i ++ all_steps) (entry_unless left entry ++ more) s t v entries
  send_leads i None None true s mid t v entries all_steps more is left_is whole own clock beside same rest = absurd (cc)
  send_leads i None None false s mid t v entries all_steps more is left_is whole own clock beside same rest =
      let here : Beside v mid = subst (λ (x : Hops). Beside v x) (sym same) beside in
      let r = rest v entries here in
      let none : slice_get (viewer_samples e rate samples) i ≡ None = slice_get-map (viewer_sample e rate) samples i ∙ ap (option_map (viewer_sample e rate)) is in
      one_leads (seen.Send i) all_steps more s mid t v entries (rw none (ap (λ (x : Hops). seen_by x v entries) same)) r
  send_leads i None (Some entry) left s mid t v entries all_steps more is left_is whole own clock beside does rest = absurd does
  send_leads i (Some sample) None left s mid t v entries all_steps more is left_is whole own clock beside does rest = absurd does
  send_leads i (Some sample) (Some entry) true s mid t v entries all_steps more is left_is whole own clock beside does rest =
      let first : is_in (length s.wire.datagrams) gone ≡ true = left_in (ltb 0 entry.count) (is_in (length s.wire.datagrams) gone) left_is in
      let nothing : closed e o gone 0 o.number mid.wire.datagrams ≡ closed e o gone 0 o.number s.wire.datagrams =
      left_beside e fits_type fits_ssrc rate some o gone s.wire.datagrams mid.wire.sending.datagrams mid.wire.datagrams does.0.gained
      (λ place l. whole place (omega (arith, l, does.0.count)) ∙ first) in
      let mtu : mid.wire.sending.mtu ≡ s.wire.sending.mtu = mtu_stays sample s.wire.sending mid.wire.sending entry.fault does.0.sends in
      let here : Beside v mid = record {
        packetizer_is = beside.packetizer_is;
        mtu = beside.mtu ∙ sym mtu;
        stream = beside.stream;
        next = beside.next ∙ ap (λ (ds : List (List ℕ)). (o.number + length ds) % 65536) (sym nothing);
      } in
      let wire : mid.wire ≡ record s.wire { sending = mid.wire.sending; datagrams = mid.wire.datagrams; sends = s.wire.sends ++ entry ∷ [] } = ap (λ (x : Hops). x.wire) does.1 in
      let seen_is : seen_by mid v entries ≡ seen_by s v entries =
      ap (λ (w : Wire). record w { sending = v; datagrams = closed e o gone 0 o.number mid.wire.datagrams; sends = entries }) wire
      ∙ ap (λ (ds : List (List ℕ)). record s.wire { sending = v; datagrams = ds; sends = entries }) nothing in
      same_leads all_steps more s mid t v entries seen_is (rest v entries here)
  send_leads i (Some sample) (Some entry) false s mid t v entries all_steps more is left_is whole own clock beside does rest =
      let one = sends_beside e fits_type fits_ssrc rate some o packetizer no_ids plain gone sample v s.wire.sending mid.wire.sending s.wire.datagrams mid.wire.datagrams entry own clock beside does.0
      (kept_out (length s.wire.datagrams) entry.count left_is whole) in
      let r = rest one.left (entries ++ entry ∷ []) one.beside in
      let there : slice_get (viewer_samples e rate samples) i ≡ Some (viewer_sample e rate sample) = slice_get-map (viewer_sample e rate) samples i ∙ ap (option_map (viewer_sample e rate)) is in
      let wire : mid.wire ≡ record s.wire { sending = mid.wire.sending; datagrams = mid.wire.datagrams; sends = s.wire.sends ++ entry ∷ [] } = ap (λ (x : Hops). x.wire) does.1 in
      let seen_is : seen_by mid one.left (entries ++ entry ∷ [])
      ≡ record (seen_by s v entries) { sending = one.left; datagrams = closed e o gone 0 o.number mid.wire.datagrams; sends = entries ++ entry ∷ [] } =
      ap (λ (w : Wire). record w { sending = one.left; datagrams = closed e o gone 0 o.number mid.wire.datagrams; sends = entries ++ entry ∷ [] }) wire in
      let step : DoesStep (viewer_samples e rate samples) (seen.Send i) (seen_by s v entries) (seen_by mid one.left (entries ++ entry ∷ [])) = rw there (entry, one.sends, seen_is) in
      record {
        end = r.end;
        runs = (
          seen_by mid one.left (entries ++ entry ∷ []),
          step,
          subst (λ (es : List SentSample). Goes all_steps (seen_by mid one.left (entries ++ entry ∷ [])) (seen_by t r.end es)) (append_assoc entries (entry ∷ []) more) r.runs,
        );
      }
