use Rattle.std.proofs.Common.{◌∙◌, Option, ap, inl, inr, refl, sym}
use Rattle.codec_payload_handle.specs.declared.object.PortSession.{PortSession}
use Rattle.codec_payload_session_formats.specs.Checks.{fault_of}
use Rattle.codec_payload_session.specs.Ports.{Session}
use Rattle.codec_payload_session.specs.Renegotiation.{with_formats}
use Rattle.codec_payload_session_formats.specs.declared.checks.SessionSettingsError.{SessionSettingsError}
use Rattle.codec_payload_c_receiving.proofs.SessionLemmas.{faulty_by, usable_by}
use Rattle.codec_payload_c_receiving.proofs.session_formats.set_formats.Goals as goal

pub returns-in-Ok-set_formats : goal.returns-in-Ok-set_formats
returns-in-Ok-set_formats c =
    let o : Option SessionSettingsError = fault_of (with_formats c.in-Ok.formats c.args.port.now.session.settings) in
    inl (
      refl,
      record {
        given = c.in-Ok.formats;
        given_is = c.in-Ok.ensures;
        in_range = sym c.are_in_range.ensures ∙ c.if-not-are_in_range.false;
        usable = usable_by o c.in-Ok-set_formats.field-0 c.in-Ok-set_formats.ensures.answer;
        session = c.set_formats.new.self;
        sets = c.in-Ok-set_formats.ensures.ok;
        left = refl;
      },
    )

pub returns-in-Err : goal.returns-in-Err
returns-in-Err c =
    let o : Option SessionSettingsError = fault_of (with_formats c.in-Ok.formats c.args.port.now.session.settings) in
    let p : PortSession = c.args.port.now in
    inr (inl (refl, inr (record { given = c.in-Ok.formats; given_is = c.in-Ok.ensures; faulty = faulty_by o c.in-Err.field-0 c.in-Err.ensures.answer }), ap (λ (s : Session). record p { session = s }) c.in-Err.ensures.err))
