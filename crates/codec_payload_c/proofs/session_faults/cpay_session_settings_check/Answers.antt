use Rattle.codec_payload_c_receiving.proofs.SettingsFaultLemmas.{accepts, refuses}
use Rattle.codec_payload_c.proofs.session_faults.cpay_session_settings_check.Goals as goal

pub returns-in-Ok-clause-accepted : goal.returns-in-Ok-clause-accepted
returns-in-Ok-clause-accepted c = accepts c.args.settings.now c.args.formats.now c.args.no_media.now c.in-Ok.found c.write_fault.result c.write_fault.new.fault c.in-Ok.ensures.ok c.write_fault.ensures

pub returns-in-Ok-clause-refused : goal.returns-in-Ok-clause-refused
returns-in-Ok-clause-refused c = refuses c.args.settings.now c.args.formats.now c.args.no_media.now c.in-Ok.found c.write_fault.result c.write_fault.new.fault c.in-Ok.ensures.ok c.write_fault.ensures
