use Rattle.std.proofs.Common.{refl}
use Rattle.bs_outside.proofs.Walking.{fetched_all, fetched_long, fetched_failed, fetched_none, long_call, all_appended}
use Rattle.bs_outside.proofs.file_fetch.fetch_file.Goals as goal

pub returns-in-Done : goal.returns-in-Done
returns-in-Done g c = record {
  is = fetched_all _ _ _ _ _ _ _ _ _ c.limit.ensures c.new-bytes.ensures.items c.in-Done.ensures.held c.in-Done.ensures.bytes c.in-Done.ensures.cause;
  call = _;
  asked = c.in-Done.ensures.call;
  answer = (record { name = refl; limit = c.limit.ensures }, refl, all_appended _ _ c.new-bytes.ensures.items);
}

pub returns-in-Failed : goal.returns-in-Failed
returns-in-Failed g c = record {
  is = fetched_failed _ _ _ _ _ _ c.in-Failed.ensures.held c.in-Failed.ensures.cause;
  call = _;
  asked = c.in-Failed.ensures.call;
  answer = (record { name = refl; limit = c.limit.ensures }, refl);
}

pub returns-in-TooLong : goal.returns-in-TooLong
returns-in-TooLong g c = record {
  is = fetched_long _ _ _ _ _ _ _ _ _ _ c.limit.ensures c.too_long.ensures c.in-TooLong.ensures.held c.in-TooLong.ensures.bytes c.in-TooLong.ensures.cause;
  call = _;
  asked = c.in-TooLong.ensures.call;
  answer = long_call _ _ _ _ c.too_long.ensures (record { name = refl; limit = c.limit.ensures }) refl;
}

pub returns-in-NoMemory : goal.returns-in-NoMemory
returns-in-NoMemory g c = record {
  is = fetched_none _ _ _ _ _ c.in-NoMemory.ensures.held c.in-NoMemory.ensures.cause;
  call = _;
  asked = c.in-NoMemory.ensures.call;
  answer = record { name = refl; limit = c.limit.ensures };
}
