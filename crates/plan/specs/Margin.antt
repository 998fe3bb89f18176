-- How much time a request's turn can take at most. Further than that from the ninth refresh owed a request alone is in time.
use Rattle.std.specs.Prelude.{ℕ, ◌+◌, ◌*◌}
use Rattle.reading.specs.Mode.{h, CL}
use Rattle.reading.specs.Settings.{Settings}

-- all times of the part together, and 8 for what a write adds to them and for the small numbers among the deadlines: no
-- command of a schedule waits longer
abbrev pub wait_of : Settings → ℕ
wait_of s = s.t_rcd + s.t_rp + s.t_ras + s.t_rrd + s.t_wr + s.t_wtr + s.t_rfc + h s.mode + CL s.mode + 8

-- of a request's three commands, and of PRECHARGE of all banks and AUTO REFRESH behind them
abbrev pub margin_of : Settings → ℕ
margin_of s = 5 * (wait_of s + 1)
