-- What a call does where the files that are held are known: the files that it comes to, its answer, and what it leaves of a
-- feed that is not read to its end. This is the project's own.
use Rattle.std.specs.Prelude.{ℕ, Bool, true, List, [], ◌∷◌, ◌++◌, Option, Some, None}
use Rattle.std.specs.FinMap.{get}
use Rattle.link_base.specs.Shelf.{Files}
use Rattle.link_run_feed.specs.declared.status.Status.{Status}
use Rattle.link_run_feed.specs.declared.status.Status.TheVariants.{ReadFault}
use Rattle.link_run_feed.specs.Answer.{Answer}
use Rattle.link_run_feed.specs.Feed.{FeedForm, feed_answer, settled as settled_of, is_front as is_front_of}

pub record Course : Type 0 where
  -- the names of the files that are read whole, in their order, before the feed
  pub whole : List (List ℕ)
  -- the name of the feed, which is read and answered line by line
  pub feed : Option (List ℕ)
  -- the answer, and the whole text, where nothing fails
  pub answer : Answer
  -- the text that is settled once these octets of the feed are read
  pub settled : List ℕ → List ℕ
  -- none of the whole lines of these octets of the feed is bad, and less than a line follows them
  pub is_front : List ℕ → Bool

abbrev pub feed_names : Option (List ℕ) → List (List ℕ)
feed_names None = []
feed_names (Some name) = name ∷ []

-- the names of all files that the call comes to, in its order
abbrev pub reached : Course → List (List ℕ)
reached course = course.whole ++ feed_names course.feed

-- a call that comes to no further file
abbrev pub says : Status → List ℕ → Course
says status text = record { whole = []; feed = None; answer = record { status = status; text = text }; settled = λ _. []; is_front = λ _. true }

-- a name of no file is a read fault, without a text
abbrev pub no_file : Answer
no_file = record { status = ReadFault; text = [] }

abbrev pub answer_on_file : (List ℕ → Answer) → Option (List ℕ) → Answer
answer_on_file answer None = no_file
answer_on_file answer (Some octets) = answer octets

-- a call that reads the feed of this name
abbrev pub on_feed : {S : Type 0} → FeedForm S → List ℕ → Files → Course
on_feed form name held = record {
  whole = [];
  feed = Some name;
  answer = answer_on_file (feed_answer form) (get held name);
  settled = settled_of form;
  is_front = is_front_of form;
}

-- the file of this name is read whole first
abbrev pub after_whole : List ℕ → Course → Course
after_whole name rest = record { whole = name ∷ rest.whole; feed = rest.feed; answer = rest.answer; settled = rest.settled; is_front = rest.is_front }

abbrev pub on_octets : (List ℕ → Files → Course) → Files → Option (List ℕ) → Course
on_octets rest held None = says ReadFault []
on_octets rest held (Some octets) = rest octets held

-- a call that reads the file of this name whole, and goes on by its octets
abbrev pub on_file : List ℕ → (List ℕ → Files → Course) → Files → Course
on_file name rest held = after_whole name (on_octets rest held (get held name))
