-- Files and a sink in memory, as plain data, and what a call makes of them.
use Rattle.std.specs.Prelude.{ℕ, Bool, false, ◌-◌, ◌||◌, nat_lt, List, [], ◌∷◌, ◌++◌, length, take, Err, unwrap_or, is_none, if◌then◌else◌}
use Rattle.std.specs.declared.result.Result.{Result}
use Rattle.atl_edges.specs.Answers.{within_limit, taken_of}
use Rattle.atl_edges.specs.Causes.{counted, faults_after, is_listed}
use Rattle.atl_edges.specs.Holdings.{Entry, content_of}
use Rattle.atl_edges.specs.declared.refusals.ReadRefusal.{ReadRefusal}
use Rattle.atl_edges.specs.declared.refusals.ReadRefusal.TheVariants.{Failed}

-- files that fail at the calls of a list: what is held, the failing call numbers, how many calls and how many
-- faults there were, and how many bytes the last call took
pub record FilesState : Type 0 where
  pub held : List Entry
  pub failing : List ℕ
  pub calls : ℕ
  pub faults : ℕ
  pub taken : ℕ

-- reading this name fails at the next call: the call is listed, or the name is not held
abbrev pub is_unread : FilesState → List ℕ → Bool
is_unread files name = is_listed files.failing files.calls || is_none (content_of files.held name)

-- the content that counts for a name, where one that is not held has no bytes
abbrev pub content_or_none : List Entry → List ℕ → List ℕ
content_or_none held name = unwrap_or (content_of held name) []

-- what reading this name at the next call comes to
abbrev pub read_answer : FilesState → List ℕ → Result (List ℕ) ReadRefusal
read_answer files name = if is_unread files name then Err Failed else within_limit (content_or_none files.held name)

-- the files after reading this name: the call is counted, and a failing one takes nothing and counts a fault
abbrev pub after_read : FilesState → List ℕ → FilesState
after_read files name = record {
  held = files.held;
  failing = files.failing;
  calls = counted files.calls;
  faults = faults_after (is_unread files name) files.faults;
  taken = if is_unread files name then 0 else taken_of (content_or_none files.held name);
}

-- files that never fail: what is held, and how many bytes the last call took
pub record SureState : Type 0 where
  pub held : List Entry
  pub taken : ℕ

-- a sink of a fixed room: what was written, the room, the failing call numbers, how many calls with a piece
-- that is not empty and how many faults there were
pub record SinkState : Type 0 where
  pub written : List ℕ
  pub room : ℕ
  pub failing : List ℕ
  pub calls : ℕ
  pub faults : ℕ

-- the room that is left
abbrev pub room_left : SinkState → ℕ
room_left sink = sink.room - length sink.written

-- the next call with this piece fails: it is listed, or the piece is past the room
abbrev pub is_refused : SinkState → List ℕ → Bool
is_refused sink piece = is_listed sink.failing sink.calls || nat_lt (room_left sink) (length piece)

-- what the next call appends of a piece: nothing if it is listed, else what fits
abbrev pub appended : SinkState → List ℕ → List ℕ
appended sink piece = if is_listed sink.failing sink.calls then [] else take (room_left sink) piece

-- a call with this piece fails, which one with an empty piece never does
abbrev pub fails_put : SinkState → List ℕ → Bool
fails_put sink [] = false
fails_put sink (byte ∷ bytes) = is_refused sink (byte ∷ bytes)

-- the sink after a call with this piece: an empty one changes nothing and is no call
abbrev pub after_put : SinkState → List ℕ → SinkState
after_put sink [] = sink
after_put sink (byte ∷ bytes) = record {
  written = sink.written ++ appended sink (byte ∷ bytes);
  room = sink.room;
  failing = sink.failing;
  calls = counted sink.calls;
  faults = faults_after (is_refused sink (byte ∷ bytes)) sink.faults;
}
