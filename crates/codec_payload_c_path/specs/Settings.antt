-- Settings of a path and of a limit of retransmissions, from C.
use Rattle.codec_payload_bandwidth_path.specs.declared.path.PathSettings.{PathSettings as Settings}
use Rattle.codec_payload_bandwidth_pacer.specs.declared.resends.ResendSettings.{ResendSettings}
use Rattle.codec_payload_c_path.specs.declared.path_settings.PathSettings.{PathSettings}
use Rattle.codec_payload_c_path.specs.declared.path_settings.ResendLimitSettings.{ResendLimitSettings}

-- for a clock in microseconds
abbrev pub path_defaults : PathSettings
path_defaults = record {
  start = 300000;
  least = 50000;
  most = 10000000;
  choice = 0;
  bound = 250000;
  pause = 2000000;
  half_window = 500000;
  share = 250;
  burst = 2500;
}

abbrev pub path_set : PathSettings → Settings
path_set s = record {
  start = s.start;
  least = s.least;
  most = s.most;
  choice = s.choice;
  pacer = record { burst = s.burst; bound = s.bound };
  resends = record { share = s.share; half_window = s.half_window };
  layers = record { pause = s.pause };
}

abbrev pub limit_defaults : ResendLimitSettings
limit_defaults = record { half_window = 500000; share = 250 }

abbrev pub limit_set : ResendLimitSettings → ResendSettings
limit_set s = record { share = s.share; half_window = s.half_window }
