-- The receiver of a stream that begins, as one of its sender's stream.
use Rattle.std.proofs.Common.{◌≡◌, ◌∙◌, refl, sym, ap, subst, ℕ, ◌&&◌, Bool, true, false, eqb, leb, cond, List, [], ◌∷◌, Option, Some, None, Result, Ok, Err}
use Rattle.std.proofs.lemmas.Option.{same_Some}
use Rattle.codec_payload_base.specs.declared.wire.Codec.{Codec}
use Rattle.codec_payload_base.specs.declared.wire.Codec.TheVariants as codecs
use Rattle.codec_payload_buffer_runs.specs.ReportedIds.{read_by}
use Rattle.codec_payload_codec.specs.Depacketizers.{Av1Depacketizing, AmrWbDepacketizing, ComfortNoiseDepacketizing, DepacketizerState, G711Depacketizing, NullDepacketizing, OpusDepacketizing, TeleDepacketizing, Vp8Depacketizing, Vp9Depacketizing, configured_depacketizer, depacketizer_state_for, unused_vp8}
use Rattle.codec_payload_vp9.specs.Vp9Fields.{unused}
use Rattle.codec_payload_datagrams.specs.declared.kinds.Retransmission.{Retransmission}
use Rattle.codec_payload_datagram_runs.specs.Releases.{AreOfOneStream}
use Rattle.codec_payload_keyframes.specs.UnitGates.{drops_units}
use Rattle.codec_payload_datagram_runs.proofs.NewReceivers.{IsBegun, new_is_begun, passed}
use Rattle.codec_payload_numbers.specs.Numbers.{Numbering, numbering_within}
use Rattle.codec_payload_numbers.specs.declared.numbers.WindowError.{WindowError}
use Rattle.codec_payload_numbers.specs.declared.numbers.WindowError.TheVariants as windows
use Rattle.codec_payload_receiver.specs.Sessions.{Session as Receiver, red_within, retransmission_fits, session_by, session_in, session_with, session_within}
use Rattle.codec_payload_receiver.specs.declared.receiver.SettingsError.TheVariants as faults
use Rattle.codec_payload_receiver.specs.declared.receiver.Settings.{Settings}
use Rattle.codec_payload_receiver.specs.declared.receiver.RedSettings.{RedSettings}
use Rattle.codec_payload_session_formats.specs.Formats.{backward_for, forward_for, is_video, retransmission_for, retransmission_of}
use Rattle.codec_payload_session_formats.specs.declared.formats.Format.{Format}
use Rattle.codec_payload_session_formats.specs.declared.formats.SessionSettings.{SessionSettings}
use Rattle.codec_payload_session_formats.specs.declared.formats.SsrcPair.{SsrcPair}
use Rattle.codec_payload_session_stream.specs.Streams.{Begins}
use Rattle.codec_payload_session_stream.specs.declared.stream.StreamState.{StreamState}
use Rattle.codec_payload_session_units.specs.OneSender.{IsSenderFor}
use Rattle.codec_payload_session_units.proofs.CopyLemmas.{HasType, not_again_by}
use Rattle.codec_payload_sending.specs.Senders.{Sending}

-- a new depacketizer has extended no picture ids
pub nothing_read : (codec : Codec) (octet : Bool) (rate : ℕ) (d : DepacketizerState) → depacketizer_state_for codec ≡ Some d → read_by (configured_depacketizer octet rate d) ≡ None
nothing_read codecs.Opus octet rate d is = subst (λ (x : DepacketizerState). read_by (configured_depacketizer octet rate x) ≡ None) (same_Some OpusDepacketizing d is) refl
nothing_read codecs.PCMU octet rate d is = subst (λ (x : DepacketizerState). read_by (configured_depacketizer octet rate x) ≡ None) (same_Some G711Depacketizing d is) refl
nothing_read codecs.PCMA octet rate d is = subst (λ (x : DepacketizerState). read_by (configured_depacketizer octet rate x) ≡ None) (same_Some G711Depacketizing d is) refl
nothing_read codecs.G722 octet rate d is = subst (λ (x : DepacketizerState). read_by (configured_depacketizer octet rate x) ≡ None) (same_Some G711Depacketizing d is) refl
nothing_read codecs.Null octet rate d is = subst (λ (x : DepacketizerState). read_by (configured_depacketizer octet rate x) ≡ None) (same_Some NullDepacketizing d is) refl
nothing_read codecs.CN octet rate d is = subst (λ (x : DepacketizerState). read_by (configured_depacketizer octet rate x) ≡ None) (same_Some ComfortNoiseDepacketizing d is) refl
nothing_read codecs.AmrWb octet rate d is = subst (λ (x : DepacketizerState). read_by (configured_depacketizer octet rate x) ≡ None) (same_Some (AmrWbDepacketizing false) d is) refl
nothing_read codecs.H264 octet rate d is = absurd (cc)
nothing_read codecs.H265 octet rate d is = absurd (cc)
nothing_read codecs.H266 octet rate d is = absurd (cc)
nothing_read codecs.Vp8 octet rate d is = subst (λ (x : DepacketizerState). read_by (configured_depacketizer octet rate x) ≡ None) (same_Some (Vp8Depacketizing unused_vp8) d is) refl
nothing_read codecs.Vp9 octet rate d is = subst (λ (x : DepacketizerState). read_by (configured_depacketizer octet rate x) ≡ None) (same_Some (Vp9Depacketizing unused) d is) refl
nothing_read codecs.Av1 octet rate d is = subst (λ (x : DepacketizerState). read_by (configured_depacketizer octet rate x) ≡ None) (same_Some (Av1Depacketizing []) d is) refl
nothing_read codecs.Tele octet rate d is = subst (λ (x : DepacketizerState). read_by (configured_depacketizer octet rate x) ≡ None) (same_Some (TeleDepacketizing 8000) d is) refl
nothing_read codecs.Rtx octet rate d is = absurd (cc)
nothing_read codecs.Red octet rate d is = absurd (cc)
nothing_read codecs.Unknown octet rate d is = absurd (cc)

-- the pairs of the settings have the payload type of the format
one_type : (b : Bool) (payload_type again : ℕ) (rest : Option Retransmission) → HasType (Some payload_type) rest
    → HasType (Some payload_type) (cond b (Some (record { ssrc = again; payload_type = payload_type })) rest)
one_type true payload_type again rest is = refl
one_type false payload_type again rest is = is

listed_type : (ssrc payload_type : ℕ) (pairs : List SsrcPair) → HasType (Some payload_type) (retransmission_of ssrc payload_type pairs)
listed_type ssrc payload_type [] = tt
listed_type ssrc payload_type (p ∷ ps) = one_type (eqb p.ssrc ssrc) payload_type p.retransmission (retransmission_of ssrc payload_type ps) (listed_type ssrc payload_type ps)

settings_type : (ssrc : ℕ) (own : Option ℕ) (pairs : List SsrcPair) → HasType own (retransmission_for ssrc own pairs)
settings_type ssrc None pairs = tt
settings_type ssrc (Some payload_type) pairs = listed_type ssrc payload_type pairs

-- a new receiver without RED
no_red_in : (s : Settings) (depacketizer : DepacketizerState) (r : Receiver) → s.red ≡ None → session_by s depacketizer ≡ Ok r → r.stream.red ≡ None
no_red_in s depacketizer r none e =
    let a = passed (leb s.payload_type 127) _ faults.PayloadType r e in
    let b = passed (leb 1 s.limit && leb s.limit 65536) _ faults.Limit r a.1 in
    let c = passed (retransmission_fits s.retransmission) _ faults.RetransmissionPayloadType r b.1 in
    by_windows (numbering_within s.forward s.backward) (subst (λ (o : Option RedSettings). session_in s depacketizer (red_within s.payload_type o) ≡ Ok r) none c.1)
  where
    by_windows : (n : Result Numbering WindowError) → session_within s depacketizer None n ≡ Ok r → r.stream.red ≡ None
    by_windows (Ok n) is =
        let made : session_with s depacketizer None n ≡ r = cc in
        subst (λ (x : Receiver). x.stream.red ≡ None) made refl
    by_windows (Err windows.Forward) is = absurd (cc)
    by_windows (Err windows.Backward) is = absurd (cc)

-- what is known of a receiver with these settings
pub record IsGiven (settings : SessionSettings) (f : Format) (given : Settings) (depacketizer : DepacketizerState) (r : Receiver) : Type 0 where
  pub new : session_by given depacketizer ≡ Ok r
  pub typed : HasType f.retransmission r.stream.retransmission
  pub no_red : r.stream.red ≡ None
  pub ids : r.stream.ids ≡ settings.extension_ids
  pub forward : given.forward ≡ forward_for (is_video f.spec.codec)
  pub backward : given.backward ≡ backward_for (is_video f.spec.codec)

-- what a stream begins with, for its sender
pub record HasBegun (settings : SessionSettings) (f : Format) (sender : Sending) (r : Receiver) : Type 0 where
  pub given : Settings
  pub depacketizer : DepacketizerState
  pub is : IsGiven settings f given depacketizer r
  pub one_stream : AreOfOneStream sender given depacketizer

pub has_begun : (settings used : SessionSettings) (ssrc : ℕ) (f : Format) (sender : Sending) (s : StreamState) → used ≡ record settings { pairs = used.pairs } → IsSenderFor settings ssrc f sender
    → (b : Begins used ssrc f s) → HasBegun settings f sender s.receiver
has_begun settings used ssrc f sender s same is b =
    let has = b.has_settings in
    let given : Settings = b.receiver_settings in
    let depacketizer : DepacketizerState = configured_depacketizer f.spec.octet_align f.spec.clock_rate b.depacketizer in
    let begun : IsBegun given depacketizer s.receiver = new_is_begun given depacketizer s.receiver b.receiver in
    let typed : HasType f.retransmission given.retransmission = subst (HasType f.retransmission) (sym has.retransmission) (settings_type ssrc f.retransmission used.pairs.items) in
    record {
      given = given;
      depacketizer = depacketizer;
      is = record {
        new = b.receiver;
        typed = subst (λ (x : Receiver). HasType f.retransmission x.stream.retransmission) (sym begun.is) typed;
        no_red = no_red_in given depacketizer s.receiver (has.red ∙ is.no_red) b.receiver;
        ids = ap (λ (x : Receiver). x.stream.ids) begun.is ∙ (has.extension_ids ∙ ap (λ (x : SessionSettings). x.extension_ids) same);
        forward = has.forward;
        backward = has.backward;
      };
      one_stream = record {
        built_in = is.built_in;
        alike = is.alike b.depacketizer b.known;
        nothing_read = nothing_read f.spec.codec f.spec.octet_align f.spec.clock_rate b.depacketizer b.known;
        clock_rate = has.clock_rate ∙ is.clock_rate;
        payload_type = has.payload_type ∙ is.payload_type;
        not_rtcp = is.not_rtcp;
        ssrc = has.ssrc_is ∙ ap (λ (n : ℕ). Some n) (sym is.ssrc_is);
        not_again = not_again_by f.retransmission sender.stream given.retransmission (λ e. is.other_type (e ∙ ap (λ (n : ℕ). Some n) (sym is.payload_type))) typed;
        drops_none = ap drops_units (has.from_keyframe ∙ ap (λ (x : SessionSettings). x.from_keyframe) same) ∙ is.drops_none;
      };
    }
