use Rattle.std.proofs.Common.{inl, refl, ◌∙◌}
use Rattle.std.specs.List.{list_all}
use Rattle.codec_payload_session_formats.specs.Checks.{fault_of}
use Rattle.codec_payload_c_receiving.specs.SessionFormats.{fault_given, format_in_range, session_in_range}
use Rattle.codec_payload_c_receiving.proofs.SessionLemmas.{made_new, range_of_made, range_of_refused, refused_by}
use Rattle.codec_payload_c_receiving.proofs.session_settings.session_by.Goals as goal

pub returns-in-Err-clause-err : goal.returns-in-Err-clause-err
returns-in-Err-clause-err c =
    refused_by (session_in_range c.args.given.now) (list_all format_in_range c.args.formats.now) (fault_given c.args.given.now c.args.formats.now c.args.no_media.now) c.in-Err.status c.in-Err.ensures.err

pub returns-in-Ok-new-clause-ok : goal.returns-in-Ok-new-clause-ok
returns-in-Ok-new-clause-ok c = (
  record { settings = c.in-Ok.settings; are = c.in-Ok.ensures.ok; made = c.new-in-Ok-new.ensures.session ∙ made_new (fault_of c.in-Ok.settings) c.in-Ok.settings c.in-Ok-new.session c.in-Ok-new.ensures; lent = c.new-in-Ok-new.ensures.lent; taken = c.new-in-Ok-new.ensures.taken },
  range_of_made (session_in_range c.args.given.now) (list_all format_in_range c.args.formats.now) c.args.given.now c.args.formats.now c.args.no_media.now c.args.pairs.now c.in-Ok.settings
      c.in-Ok-new.session c.in-Ok.ensures.ok c.in-Ok.ensures.in_range c.in-Ok-new.ensures,
)

pub returns-in-Err-new-clause-err : goal.returns-in-Err-new-clause-err
returns-in-Err-new-clause-err c = inl (
  refl,
  range_of_refused (session_in_range c.args.given.now) (list_all format_in_range c.args.formats.now) c.args.given.now c.args.formats.now c.args.no_media.now c.args.pairs.now c.in-Ok.settings
      c.in-Err-new.field-0 c.in-Ok.ensures.ok c.in-Err-new.ensures,
)
