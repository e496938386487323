use Rattle.std.proofs.Common.{inl}
use Rattle.codec_payload_c_fec.proofs.port_settings.port_by.Goals as goal

pub returns-in-Err-clause-refused : goal.returns-in-Err-clause-refused
returns-in-Err-clause-refused c = inl (record {
  settings = c.in-Ok.settings;
  are = c.in-Ok.ensures;
  fault = c.in-Err.fault;
  is_first = c.in-Err.ensures.fault;
  says = c.fault_status.ensures;
})
