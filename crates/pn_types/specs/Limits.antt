-- The greatest and least numbers of a run, which definitions name.
use Rattle.std.specs.Prelude.{◌≡◌}
use Rattle.pn_types.specs.declared.limits.TheConstants.{MAX_HARTS, MAX_WORKERS, MAX_BUDGET, MAX_QUANTUM, MAX_QUANTA, MIN_BINS, MAX_BINS, MAX_WIDTH, MAX_INSTRUMENTS, USUAL_INSTRUMENTS, MAX_SEGMENTS, SEGMENTS_FROM, SEGMENTS_TO, MAX_IMAGE_SIZE, MAX_TEXT_LEN, TOOL_TEXT_LEN, BANK_LEN, FIRST_SLOT}

pub record LimitsAre : Type 0 where
  pub harts : MAX_HARTS ≡ 32
  pub workers : MAX_WORKERS ≡ 16
  pub budget : MAX_BUDGET ≡ 100000000
  pub quantum : MAX_QUANTUM ≡ 10000
  pub quanta : MAX_QUANTA ≡ 16777216
  pub least_bins : MIN_BINS ≡ 2
  pub bins : MAX_BINS ≡ 1024
  pub width : MAX_WIDTH ≡ 1000000
  pub instruments : MAX_INSTRUMENTS ≡ 1024
  pub usual_instruments : USUAL_INSTRUMENTS ≡ 64
  pub segments : MAX_SEGMENTS ≡ 16
  pub segments_from : SEGMENTS_FROM ≡ 0x10000
  pub segments_to : SEGMENTS_TO ≡ 0x60000000
  pub image : MAX_IMAGE_SIZE ≡ 25165824
  pub text : MAX_TEXT_LEN ≡ 524288
  pub tool_text : TOOL_TEXT_LEN ≡ 393216
  pub bank : BANK_LEN ≡ 4096
  pub first_slot : FIRST_SLOT ≡ 2
