-- What a forwarder writes for a packet of its source, and what stays in it.
use Rattle.std.proofs.Common.{◌≡◌, ◌∙◌, refl, sym, ap, subst, ℕ, ◌+◌, ◌-◌, ◌%◌, ◌<◌, ◌≤◌, List, [], ◌∷◌, Bool, true, false, ltb, Option, Some, None, Ok, arith}
use Rattle.std.specs.Prelude.{nat_le, nat_lt}
use Rattle.std.proofs.lemmas.Bool.{eq-eqb, leb-false, leb-true}
use Rattle.codec_payload_base.specs.Extended.{ahead, nearest}
use Rattle.codec_payload_base.specs.declared.wire.Codec.{Codec}
use Rattle.codec_payload_rtp.specs.RtpPackets.{Packet, packet_bytes}
use Rattle.codec_payload_rtp.specs.RtpReading.{rtp_at}
use Rattle.codec_payload_sending_forward.specs.Forwarding.{Forward, Forwards, after_begin, after_next, first_packet, ids_in, ids_late, ids_when, is_source, next_packet, number_in, offsets_for, packet_under, payload_for, sent_packet, ticks_between}
use Rattle.codec_payload_sending_forward.specs.Ids.{Ids, after_picture, after_sent, offsets_switched, switched_ids}
use Rattle.codec_payload_sending_forward.specs.Numbers.{Numbers, after_packet, is_in, is_too_old, next_number, placed, sent_as}
use Rattle.codec_payload_sending_forward.specs.Times.{time_as}
use Rattle.codec_payload_sending_forward.specs.declared.forwarder.Forwarded.{Forwarded}
use Rattle.codec_payload_sending_forward.specs.declared.forwarder.Forwarded.TheVariants as answers
use Rattle.codec_payload_sending_forward.specs.declared.forwarder.ForwardSettings.{ForwardSettings}
use Rattle.codec_payload_sending_forward.specs.declared.renumbering.Placed.TheVariants as places
use Rattle.codec_payload_sending_forward.specs.declared.ids.IdOffsets.{IdOffsets}
use Rattle.codec_payload_sending_forward.specs.declared.ids.PayloadIds.{PayloadIds}
use Rattle.codec_payload_forward_runs.proofs.KeptPayloads.{IsKept, same_payload}
use Rattle.codec_payload_forward_runs.specs.ForwardReleases.{viewer_packet}
use Rattle.codec_payload_forward_runs.specs.ForwardRuns.{written_by}

-- Numbers

low_by : (b : Bool) (previous number : ℕ) → nat_le (ahead 65536 previous number) 32768 ≡ b → nearest 65536 previous number % 65536 ≡ number % 65536
low_by true previous number is = let few : ahead 65536 previous number ≤ 32768 = leb-true (ahead 65536 previous number) 32768 is in rw is (omega (arith, few))
low_by false previous number is = let many : 32768 < ahead 65536 previous number = leb-false (ahead 65536 previous number) 32768 is in rw is (omega (arith, many))

-- an extended number has the low bits of the number
pub low_number : (previous number : ℕ) → nearest 65536 previous number % 65536 ≡ number % 65536
low_number previous number = low_by (nat_le (ahead 65536 previous number) 32768) previous number refl

-- a number that is sent is that of the map
pub placed_is : (m : Numbers) (n sent : ℕ) → placed m n true ≡ places.Sent sent → sent ≡ sent_as m n
placed_is m n sent is = by (is_too_old m n) refl (is_in n m.left_out) refl
  where
    by : (old : Bool) → is_too_old m n ≡ old → (out : Bool) → is_in n m.left_out ≡ out → sent ≡ sent_as m n
    by true e out f = absurd (let none : places.TooOld ≡ places.Sent sent = subst (λ p. p ≡ places.Sent sent) (rw e refl) is in cc)
    by false e true f = absurd (let none : places.LeftOut ≡ places.Sent sent = subst (λ p. p ≡ places.Sent sent) (rw (e, f) refl) is in cc)
    by false e false f = let same : places.Sent (sent_as m n) ≡ places.Sent sent = subst (λ p. p ≡ places.Sent sent) (rw (e, f) refl) is in cc

-- without packets that are left out it is the number and the offset
sent_plainly : (m : Numbers) (n : ℕ) → m.left_out ≡ [] → sent_as m n ≡ (n + m.offset) % 65536
sent_plainly m n none = rw none (omega arith)

-- the map keeps its offset while packets are sent
pub offset_stays : (m : Numbers) (n : ℕ) → ((after_packet n true m).offset ≡ m.offset) × ((after_packet n true m).left_out ≡ m.left_out)
offset_stays m n = by (is_too_old m n) refl (ltb m.highest n) refl
  where
    by : (old : Bool) → is_too_old m n ≡ old → (up : Bool) → ltb m.highest n ≡ up → ((after_packet n true m).offset ≡ m.offset) × ((after_packet n true m).left_out ≡ m.left_out)
    by true e up f = rw e (refl, refl)
    by false e true f = rw (e, f) (refl, refl)
    by false e false f = rw (e, f) (refl, refl)

-- Packets

-- a packet of the sender. `steady` says that its payload has no ids of VP8
pub record IsOf (steady : Bool) (ssrc : ℕ) (codec : Codec) (p : Packet) : Type 0 where
  pub source : p.header.ssrc ≡ ssrc
  pub number : p.header.sequence_number < 65536
  pub time : p.header.timestamp < 4294967296
  pub padding : p.padding ≡ 0
  pub kept : steady ≡ true → IsKept codec p.payload

-- no packet was left out, and, if payloads have ids of VP8, no picture
abbrev pub HasLeftNone : Bool → Forward → Type 0
HasLeftNone steady f = (f.numbers.left_out ≡ []) × (steady ≡ false → f.ids.left_out ≡ [])

-- a packet with a payload, number and time that are the same
same_under : (s : ForwardSettings) (n n' t t' : ℕ) (p : Packet) (payload payload' : List ℕ) → n ≡ n' → t ≡ t' → payload ≡ payload'
    → packet_under s n t (record p { payload = payload }) ≡ packet_under s n' t' (record p { payload = payload' })
same_under s n n' t t' p payload payload' e1 e2 e3 =
    ap (λ (m : ℕ). packet_under s m t (record p { payload = payload })) e1
    ∙ (ap (λ (m : ℕ). packet_under s n' m (record p { payload = payload })) e2
    ∙ ap (λ (bytes : List ℕ). packet_under s n' t' (record p { payload = bytes })) e3)

-- ids: a packet that is sent leaves the offsets
sent_leaves : (o : IdOffsets) (ids : Option PayloadIds) (m : Ids) → (after_picture o ids m).offsets ≡ m.offsets
sent_leaves o None m = refl
sent_leaves o (Some ids) m = refl

pub switched_to : (ids : Option PayloadIds) (m : Ids) → (switched_ids ids m).offsets ≡ offsets_switched m ids
switched_to ids m = sent_leaves (offsets_switched m ids) ids (record m { offsets = offsets_switched m ids; left_out = [] })

-- and the pictures that were left out; a switch forgets them
sent_left : (o : IdOffsets) (ids : Option PayloadIds) (m : Ids) → (after_picture o ids m).left_out ≡ m.left_out
sent_left o None m = refl
sent_left o (Some ids) m = refl

-- a late one leaves the picture that was left out too
late_leaves : (o : IdOffsets) (ids : Option PayloadIds) (m : Ids) → ((after_sent o ids m).offsets ≡ m.offsets) × ((after_sent o ids m).left_out ≡ m.left_out) × ((after_sent o ids m).leaving ≡ m.leaving)
late_leaves o None m = (refl, refl, refl)
late_leaves o (Some ids) m = (refl, refl, refl)

pub late_leaving : (latest : Bool) (codec : Codec) (n : ℕ) (payload : List ℕ) (m : Ids) → (ids_late latest codec n payload m).leaving ≡ m.leaving
late_leaving true codec n payload m = (late_leaves (offsets_for codec m n) (ids_in codec payload) m).2
late_leaving false codec n payload m = refl

pub left_stay : (ahead latest : Bool) (codec : Codec) (n : ℕ) (payload : List ℕ) (m : Ids) → (ids_when ahead latest codec n payload m).left_out ≡ m.left_out
left_stay true latest codec n payload m = sent_left (offsets_for codec m n) (ids_in codec payload) m
left_stay false true codec n payload m = (late_leaves (offsets_for codec m n) (ids_in codec payload) m).1
left_stay false false codec n payload m = refl

pub switched_none : (ids : Option PayloadIds) (m : Ids) → (switched_ids ids m).left_out ≡ []
switched_none ids m = sent_left (offsets_switched m ids) ids (record m { offsets = offsets_switched m ids; left_out = [] })

pub ids_stay : (ahead latest : Bool) (codec : Codec) (n : ℕ) (payload : List ℕ) (m : Ids) → (ids_when ahead latest codec n payload m).offsets ≡ m.offsets
ids_stay true latest codec n payload m = sent_leaves (offsets_for codec m n) (ids_in codec payload) m
ids_stay false true codec n payload m = (late_leaves (offsets_for codec m n) (ids_in codec payload) m).0
ids_stay false false codec n payload m = refl

-- the packet with which the forwarder begins
begun_packet : (steady : Bool) (ssrc now : ℕ) (p : Packet) (f : Forward) → IsOf steady ssrc f.settings.codec p → first_packet now f p ≡ viewer_packet (after_begin now p f) p
begun_packet steady ssrc now p f of =
    let number : next_number f.numbers ≡ (p.header.sequence_number + (next_number f.numbers + 65536 - (65536 + p.header.sequence_number) % 65536) % 65536) % 65536 = omega (arith, of.number) in
    let time : (f.times.highest + ticks_between f.written_at now) % 4294967296
    ≡ (p.header.timestamp + ((f.times.highest + ticks_between f.written_at now) % 4294967296 + (4294967296 - p.header.timestamp)) % 4294967296) % 4294967296 = omega (arith, of.time) in
    let ids : Option PayloadIds = ids_in f.settings.codec p.payload in
    same_under f.settings _ _ _ _ p _ _ number time
    (ap (λ (o : IdOffsets). payload_for f.settings.codec o p.payload) (sym (switched_to ids f.ids)))

-- a later packet
pub written_packet : (steady : Bool) (ssrc sent : ℕ) (p : Packet) (f : Forward) → IsOf steady ssrc f.settings.codec p → HasLeftNone steady f → placed f.numbers (number_in f p) true ≡ places.Sent sent
    → next_packet f sent p ≡ viewer_packet f p
written_packet steady ssrc sent p f of none is =
    let low : number_in f p % 65536 ≡ p.header.sequence_number % 65536 = low_number f.numbers.highest p.header.sequence_number in
    let number : sent ≡ (p.header.sequence_number + f.numbers.offset) % 65536 = omega (arith, placed_is f.numbers (number_in f p) sent is, sent_plainly f.numbers (number_in f p) none.0, low) in
    same_under f.settings _ _ _ _ p _ _ number refl (same_payload steady f.settings.codec f.ids (number_in f p) p.payload of.kept none.1)

-- the packet as the viewer gets it depends on the offsets alone
pub same_viewer : (f e : Forward) (p : Packet) → e.settings ≡ f.settings → e.numbers.offset ≡ f.numbers.offset → e.times.offset ≡ f.times.offset → e.ids.offsets ≡ f.ids.offsets
    → viewer_packet e p ≡ viewer_packet f p
same_viewer f e p settings numbers times ids =
    ap (λ (s : ForwardSettings). sent_packet s e.ids.offsets ((p.header.sequence_number + e.numbers.offset) % 65536) (time_as e.times p.header.timestamp) p) settings
    ∙ (ap (λ (o : ℕ). sent_packet f.settings e.ids.offsets ((p.header.sequence_number + o) % 65536) (time_as e.times p.header.timestamp) p) numbers
    ∙ (ap (λ (o : ℕ). sent_packet f.settings e.ids.offsets ((p.header.sequence_number + f.numbers.offset) % 65536) ((p.header.timestamp + o) % 4294967296) p) times
    ∙ ap (λ (o : IdOffsets). sent_packet f.settings o ((p.header.sequence_number + f.numbers.offset) % 65536) (time_as f.times p.header.timestamp) p) ids))

-- The forwarder

-- no packet of the source was left out
abbrev pub HasNone : Bool → ℕ → Forward → Type 0
HasNone steady ssrc f = is_source f.source ssrc ≡ true → HasLeftNone steady f

-- The forwarder later: it has the same settings; once it forwards the source, its offsets stay
pub record GoesOn (ssrc : ℕ) (f t : Forward) : Type 0 where
  pub settings : t.settings ≡ f.settings
  pub source : is_source f.source ssrc ≡ true → is_source t.source ssrc ≡ true
  pub numbers : is_source f.source ssrc ≡ true → t.numbers.offset ≡ f.numbers.offset
  pub times : is_source f.source ssrc ≡ true → t.times.offset ≡ f.times.offset
  pub ids : is_source f.source ssrc ≡ true → t.ids.offsets ≡ f.ids.offsets
  pub none : (steady : Bool) → HasNone steady ssrc f → HasNone steady ssrc t

pub goes_nowhere : (ssrc : ℕ) (f t : Forward) → t ≡ f → GoesOn ssrc f t
goes_nowhere ssrc f t same = record {
  settings = ap (λ (x : Forward). x.settings) same;
  source = λ on. ap (λ (x : Forward). is_source x.source ssrc) same ∙ on;
  numbers = λ on. ap (λ (x : Forward). x.numbers.offset) same;
  times = λ on. ap (λ (x : Forward). x.times.offset) same;
  ids = λ on. ap (λ (x : Forward). x.ids.offsets) same;
  none = λ steady none. subst (HasNone steady ssrc) (sym same) none;
}

pub goes_further : (ssrc : ℕ) (f m t : Forward) → GoesOn ssrc f m → GoesOn ssrc m t → GoesOn ssrc f t
goes_further ssrc f m t one two = record {
  settings = two.settings ∙ one.settings;
  source = λ on. two.source (one.source on);
  numbers = λ on. two.numbers (one.source on) ∙ one.numbers on;
  times = λ on. two.times (one.source on) ∙ one.times on;
  ids = λ on. two.ids (one.source on) ∙ one.ids on;
  none = λ steady none. two.none steady (one.none steady none);
}

not_on : (ssrc : ℕ) (f : Forward) → is_source f.source ssrc ≡ false → is_source f.source ssrc ≡ true → ⊥
not_on ssrc f off on = cc

-- the source is the wanted one
goes_over : (ssrc now : ℕ) (p : Packet) (f t : Forward) → p.header.ssrc ≡ ssrc → is_source f.source p.header.ssrc ≡ false → t ≡ after_begin now p f → GoesOn ssrc f t
goes_over ssrc now p f t same off is =
    let other : is_source f.source ssrc ≡ false = subst (λ (n : ℕ). is_source f.source n ≡ false) same off in
    record {
      settings = ap (λ (x : Forward). x.settings) is;
      source = λ on. absurd (not_on ssrc f other on);
      numbers = λ on. absurd (not_on ssrc f other on);
      times = λ on. absurd (not_on ssrc f other on);
      ids = λ on. absurd (not_on ssrc f other on);
      none = λ steady none on. (ap (λ (x : Forward). x.numbers.left_out) is, λ ids. ap (λ (x : Forward). x.ids.left_out) is ∙ switched_none (ids_in f.settings.codec p.payload) f.ids);
    }

goes_next : (ssrc now : ℕ) (p : Packet) (f t : Forward) → t ≡ after_next now p f → GoesOn ssrc f t
goes_next ssrc now p f t is =
    let stays = offset_stays f.numbers (number_in f p) in
    record {
      settings = ap (λ (x : Forward). x.settings) is;
      source = λ on. ap (λ (x : Forward). is_source x.source ssrc) is ∙ on;
      numbers = λ on. ap (λ (x : Forward). x.numbers.offset) is ∙ stays.0;
      times = λ on. ap (λ (x : Forward). x.times.offset) is;
      ids = λ on. ap (λ (x : Forward). x.ids.offsets) is ∙ ids_stay (nat_lt f.numbers.highest (number_in f p)) (nat_lt f.latest (number_in f p)) f.settings.codec (number_in f p) p.payload f.ids;
      none = λ steady none on.
          let before = none (sym (ap (λ (x : Forward). is_source x.source ssrc) is) ∙ on) in (
            ap (λ (x : Forward). x.numbers.left_out) is ∙ (stays.1 ∙ before.0),
            λ ids. ap (λ (x : Forward). x.ids.left_out) is ∙ (left_stay (nat_lt f.numbers.highest (number_in f p)) (nat_lt f.latest (number_in f p)) f.settings.codec (number_in f p) p.payload f.ids ∙ before.1 ids),
          );
    }

-- What is done with a packet of the source: the forwarder goes on; and what is written is the packet as the viewer gets it
pub record DoesOne (ssrc : ℕ) (p : Packet) (f : Forward) (answer : Forwarded) (bytes : List ℕ) (t : Forward) : Type 0 where
  pub on : GoesOn ssrc f t
  pub writes : (b : List ℕ) → written_by answer bytes ≡ b ∷ [] → (is_source t.source ssrc ≡ true) × (b ≡ packet_bytes (viewer_packet t p)) × (rtp_at b ≡ Ok (viewer_packet t p))

writes_it : (p q : Packet) (bytes b : List ℕ) → q ≡ p → bytes ∷ [] ≡ b ∷ [] → (bytes ≡ packet_bytes q) × (rtp_at bytes ≡ Ok q) → (b ≡ packet_bytes p) × (rtp_at b ≡ Ok p)
writes_it p q bytes b same is written =
    let e : bytes ≡ b = cc in
    subst (λ (x : List ℕ). (x ≡ packet_bytes p) × (rtp_at x ≡ Ok p)) e (subst (λ (x : Packet). (bytes ≡ packet_bytes x) × (rtp_at bytes ≡ Ok x)) same written)

writes_none : (b : List ℕ) → [] ≡ b ∷ [] → ⊥
writes_none b e = cc

is_itself : (ssrc : ℕ) → is_source (Some ssrc) ssrc ≡ true
is_itself ssrc = eq-eqb ssrc ssrc refl

pub does_one : (steady : Bool) (ssrc now : ℕ) (p : Packet) (f : Forward) (answer : Forwarded) (bytes : List ℕ) (t : Forward) → IsOf steady ssrc f.settings.codec p → HasNone steady ssrc f → Forwards now p f answer bytes t
    → DoesOne ssrc p f answer bytes t
does_one steady ssrc now p f answers.Began bytes t of none does = record {
  on = goes_over ssrc now p f t of.source does.0 does.4;
  writes = λ b is.
      let w = writes_it (viewer_packet t p) (first_packet now f p) bytes b (begun_packet steady ssrc now p f of ∙ ap (λ (x : Forward). viewer_packet x p) (sym does.4)) is does.3 in
      (ap (λ (x : Forward). is_source x.source ssrc) does.4 ∙ (ap (λ (n : ℕ). is_source (Some n) ssrc) of.source ∙ is_itself ssrc), w.0, w.1);
}
does_one steady ssrc now p f answers.Written bytes t of none does =
    let on : is_source f.source ssrc ≡ true = subst (λ (n : ℕ). is_source f.source n ≡ true) of.source does.0 in
    let goes : GoesOn ssrc f t = goes_next ssrc now p f t does.2 in
    record {
      on = goes;
      writes = λ b is.
          let w = writes_it (viewer_packet t p) (next_packet f does.1.0 p) bytes b
          (written_packet steady ssrc does.1.0 p f of (none on) does.1.1 ∙ sym (same_viewer f t p goes.settings (goes.numbers on) (goes.times on) (goes.ids on))) is does.1.2 in
          (goes.source on, w.0, w.1);
    }
does_one steady ssrc now p f answers.NoKeyframe bytes t of none does = record { on = goes_nowhere ssrc f t does.3.1; writes = λ b is. absurd (writes_none b is) }
does_one steady ssrc now p f answers.OtherSource bytes t of none does = record { on = goes_nowhere ssrc f t does.2.1; writes = λ b is. absurd (writes_none b is) }
does_one steady ssrc now p f answers.TooOld bytes t of none does = record { on = goes_nowhere ssrc f t does.2.1; writes = λ b is. absurd (writes_none b is) }
does_one steady ssrc now p f answers.LeftOut bytes t of none does = record { on = goes_nowhere ssrc f t does.2.1; writes = λ b is. absurd (writes_none b is) }
does_one steady ssrc now p f answers.Filled bytes t of none does = absurd does
