-- The part replayed and the plain memory, on small windows.
use Prim.Native.Nat.{ℕ, ◌+◌}
use mathlib.Core.List.{List, [], ◌∷◌, ◌++◌, map}
use mathlib.Core.Path.{◌≡◌, refl}
use lib.ListN.{set}
use Rattle.reading.specs.Settings.{settings_of}
use Rattle.reading.specs.Capture.{Event}
use Rattle.reading.specs.Memory.{Datum, Run, merged, store, load, store_beats, play, replay_bursts, replay, plain}
use Rattle.reading.proofs.Cases.{ACTIVE, READ, WRITE, TERMINATE, at, usual, said}

abbrev masked : ℕ → ℕ → Datum
masked mask word = record { word = word; mask = mask }

-- every cell holds 0xaabbccdd at first
abbrev fresh : List Datum → Run
fresh data₀ = record { contents = λ x. 0xaabbccdd; supply = data₀; returned = [] }

-- what was returned, what cells 0 to 3 hold, how many words and masks are left
pub record Seen : Type 0 where
  pub words : List ℕ
  pub cells : List ℕ
  pub left : List Datum

seen : Run → Seen
seen r = record { words = r.returned; cells = map r.contents (0 ∷ 1 ∷ 2 ∷ 3 ∷ []); left = r.supply }

record Case : Type 0 where
  settings : List ℕ
  events : List Event
  supply : List Datum
  sees : Seen

four : List Datum
four = masked 0b0000 0x11111111 ∷ masked 0b0001 0x22222222 ∷ masked 0b1110 0x33333333 ∷ masked 0b1111 0x44444444 ∷ []

-- lane code 2 at first: lane i is stored where bit i of the mask is 0
cases : List Case
cases =
    record {
      settings = set usual 0 2;
      events = at 0 ACTIVE ∷ at 3 WRITE ∷ at 7 (READ + 1) ∷ [];
      supply = four ++ four;
      sees =
          record {
            words = 0x222222dd ∷ 0xaabbcc33 ∷ 0xaabbccdd ∷ 0x11111111 ∷ [];
            cells = 0x11111111 ∷ 0x222222dd ∷ 0xaabbcc33 ∷ 0xaabbccdd ∷ [];
            left = four;
          };
    }
    -- lane code 1: two lanes are stored and two are returned
    ∷ record {
      settings = usual;
      events = at 0 ACTIVE ∷ at 3 WRITE ∷ at 7 (READ + 1) ∷ [];
      supply = four;
      sees =
          record {
            words = 0x22dd ∷ 0xcc33 ∷ 0xccdd ∷ 0x1111 ∷ [];
            cells = 0xaabb1111 ∷ 0xaabb22dd ∷ 0xaabbcc33 ∷ 0xaabbccdd ∷ [];
            left = [];
          };
    }
    -- lane 0 is the low byte
    ∷ record {
      settings = usual;
      events = at 0 ACTIVE ∷ at 3 WRITE ∷ [];
      supply = masked 0b00 0x5678 ∷ masked 0b01 0x1234 ∷ masked 0b10 0x1234 ∷ masked 0b11 0x1234 ∷ [];
      sees = record { words = []; cells = 0xaabb5678 ∷ 0xaabb12dd ∷ 0xaabbcc34 ∷ 0xaabbccdd ∷ []; left = [] };
    }
    -- a cut write takes all its words and stores those of its kept beats, cells 0 and 1; the next starts at cell 2
    -- and comes round to cell 0 with the third word; a cut read returns its kept beats
    ∷ record {
      settings = set usual 0 2;
      events = at 0 ACTIVE ∷ at 3 WRITE ∷ at 4 (WRITE + 2) ∷ at 8 READ ∷ at 9 TERMINATE ∷ [];
      supply = four ++ four;
      sees =
          record {
            words = 0x11111133 ∷ 0x222222dd ∷ [];
            cells = 0x11111133 ∷ 0x222222dd ∷ 0x11111111 ∷ 0x222222dd ∷ [];
            left = [];
          };
    }
    -- the beats that a cut write does not keep are stored nowhere: cell 2 stays as it was
    ∷ record {
      settings = set usual 0 2;
      events = at 0 ACTIVE ∷ at 3 WRITE ∷ at 4 (WRITE + 4) ∷ [];
      supply = four ++ four;
      sees = record { words = []; cells = 0x11111111 ∷ 0x222222dd ∷ 0xaabbccdd ∷ 0xaabbccdd ∷ []; left = [] };
    }
    -- four lanes, a different one masked in each beat
    ∷ record {
      settings = set usual 0 2;
      events = at 0 ACTIVE ∷ at 3 WRITE ∷ [];
      supply = masked 0b0100 0x12345678 ∷ masked 0b0010 0x12345678 ∷ masked 0b1000 0x12345678 ∷ masked 0b0001 0x12345678 ∷ [];
      sees = record { words = []; cells = 0x12bb5678 ∷ 0x1234cc78 ∷ 0xaa345678 ∷ 0x123456dd ∷ []; left = [] };
    }
    -- events in order: a read before the write, and two after it
    ∷ record {
      settings = set usual 0 2;
      events = at 0 ACTIVE ∷ at 3 READ ∷ at 8 WRITE ∷ at 12 READ ∷ at 14 (READ + 1) ∷ [];
      supply = four;
      sees =
          record {
            words =
                0xaabbccdd ∷ 0xaabbccdd ∷ 0xaabbccdd ∷ 0xaabbccdd
                ∷ 0x11111111 ∷ 0x222222dd ∷ 0xaabbcc33 ∷ 0xaabbccdd
                ∷ 0x222222dd ∷ 0xaabbcc33 ∷ 0xaabbccdd ∷ 0x11111111 ∷ [];
            cells = 0x11111111 ∷ 0x222222dd ∷ 0xaabbcc33 ∷ 0xaabbccdd ∷ [];
            left = [];
          };
    }
    -- interleaved from cell 1: cells 1, 0, 3, 2
    ∷ record {
      settings = set (set usual 0 2) 3 0x3a;
      events = at 0 ACTIVE ∷ at 3 (WRITE + 1) ∷ [];
      supply = four;
      sees = record { words = []; cells = 0x222222dd ∷ 0x11111111 ∷ 0xaabbccdd ∷ 0xaabbcc33 ∷ []; left = [] };
    }
    ∷ []

replays : map (λ x. seen (replay (settings_of x.settings) x.events (fresh x.supply))) cases ≡ map (λ x. x.sees) cases
unfolding cases four seen said replay replay_bursts play store_beats store load merged
replays = refl

-- ---- the plain memory, asked by requests

record Asked : Type 0 where
  settings : List ℕ
  requests : List ℕ
  supply : List Datum
  sees : Seen

asked : List Asked
asked =
    -- a write from cell 2 and a read from cell 1
    record {
      settings = set usual 0 2;
      requests = (0x80000000 + 2) ∷ 1 ∷ [];
      supply = four;
      sees =
          record {
            words = 0xaabbccdd ∷ 0x11111111 ∷ 0x222222dd ∷ 0xaabbcc33 ∷ [];
            cells = 0xaabbcc33 ∷ 0xaabbccdd ∷ 0x11111111 ∷ 0x222222dd ∷ [];
            left = [];
          };
    }
    -- a write to bank 1, and reads of bank 0, of row 1 and of bank 1
    ∷ record {
      settings = set usual 0 2;
      requests = (0x80000000 + 8388608) ∷ 0 ∷ 1024 ∷ 8388608 ∷ [];
      supply = four;
      sees =
          record {
            words =
                0xaabbccdd ∷ 0xaabbccdd ∷ 0xaabbccdd ∷ 0xaabbccdd
                ∷ 0xaabbccdd ∷ 0xaabbccdd ∷ 0xaabbccdd ∷ 0xaabbccdd
                ∷ 0x11111111 ∷ 0x222222dd ∷ 0xaabbcc33 ∷ 0xaabbccdd ∷ [];
            cells = 0xaabbccdd ∷ 0xaabbccdd ∷ 0xaabbccdd ∷ 0xaabbccdd ∷ [];
            left = [];
          };
    }
    -- a write to row 1, and reads of rows 0 and 1
    ∷ record {
      settings = set usual 0 2;
      requests = (0x80000000 + 1024) ∷ 0 ∷ 1024 ∷ [];
      supply = four;
      sees =
          record {
            words = 0xaabbccdd ∷ 0xaabbccdd ∷ 0xaabbccdd ∷ 0xaabbccdd ∷ 0x11111111 ∷ 0x222222dd ∷ 0xaabbcc33 ∷ 0xaabbccdd ∷ [];
            cells = 0xaabbccdd ∷ 0xaabbccdd ∷ 0xaabbccdd ∷ 0xaabbccdd ∷ [];
            left = [];
          };
    }
    -- interleaved bursts of two: cells 1 and 0, and two words are left; lane code 1
    ∷ record {
      settings = set usual 3 0x39;
      requests = (0x80000000 + 1) ∷ 1 ∷ [];
      supply = four;
      sees =
          record {
            words = 0x1111 ∷ 0x22dd ∷ [];
            cells = 0xaabb22dd ∷ 0xaabb1111 ∷ 0xaabbccdd ∷ 0xaabbccdd ∷ [];
            left = masked 0b1110 0x33333333 ∷ masked 0b1111 0x44444444 ∷ [];
          };
    }
    ∷ []

plain-memory : map (λ x. seen (plain (settings_of x.settings) x.requests (fresh x.supply))) asked ≡ map (λ x. x.sees) asked
unfolding asked four seen said plain play store_beats store load merged
plain-memory = refl
