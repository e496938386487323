use Rattle.std.proofs.Common.{◌∙◌, sym}
use Rattle.std.specs.List.{list_all}
use Rattle.codec_payload_c_receiving.specs.SessionFormats.{format_in_range, session_in_range}
use Rattle.codec_payload_c_receiving.proofs.SessionLemmas.{both_true}
use Rattle.codec_payload_c_receiving.proofs.session_settings.settings_by.Goals as goal

pub returns-clause-ok : goal.returns-clause-ok
returns-clause-ok c =
    let plain = c.in-Some.ensures.settings in
    let lists = c.in-Ok-Ok-Ok-Ok-Ok in
    record {
      plain = record {
        ids = plain.ids;
        dependency_descriptor = plain.dependency_descriptor;
        name_ids = plain.name_ids;
        audio = plain.audio;
        video = plain.video;
        late = plain.late;
        from_keyframe = plain.from_keyframe;
        limit = plain.limit;
        max_unit = plain.max_unit;
        max_streams = plain.max_streams;
        probation = plain.probation;
        idle_timeout = plain.idle_timeout;
        bye_wait = plain.bye_wait;
        tick_rate = plain.tick_rate;
        transport = plain.transport;
      };
      formats_are = lists.ensures;
      no_media_are = lists.ensures'';
      telephone_events_are = lists.ensures';
      pairs_are = lists.ensures''';
      feedback_is = lists.ensures'''';
    }

pub returns-clause-in_range : goal.returns-clause-in_range
returns-clause-in_range c =
    both_true (session_in_range c.args.given.now) (list_all format_in_range c.args.formats.now) (sym c.in-Some.ensures.made) (sym c.are_in_range.ensures ∙ c.if-not-are_in_range.false)
