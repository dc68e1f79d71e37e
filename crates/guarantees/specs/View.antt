-- What is compared: of every entry all that it came to, but for the answer shares of the box whose shares are to stay hidden.
use Rattle.std.specs.Prelude.{ℕ, List, [], map}
use Rattle.shares.specs.Reading.{read_words}
use Rattle.rules.specs.Answers.{fresh, started, spoke, heard, finished, dropped, refused}
use Rattle.guarantees.specs.Boxes.{Box, box1, box2}
use Rattle.guarantees.specs.Run.{Said, nothing, lost, replied, Event}

-- the answer shares, covered
abbrev pub covered : Said → Said
covered nothing = nothing
covered lost = lost
covered (replied (fresh k)) = replied (fresh k)
covered (replied started) = replied started
covered (replied (spoke k)) = replied (spoke k)
covered (replied heard) = replied heard
covered (replied (finished vs)) = replied (finished [])
covered (replied dropped) = replied dropped
covered (replied (refused k)) = replied (refused k)

-- what is said at a box, as it is compared when b's shares are to stay hidden
abbrev pub said_at : Box → Box → Said → Said
said_at box1 box1 said = covered said
said_at box1 box2 said = said
said_at box2 box1 said = said
said_at box2 box2 said = covered said

-- words spoken are compared as they are, words heard after the reading, for the hearing box's width (document 02, P3)
abbrev pub heard_as : Event → List ℕ
heard_as e = read_words e.key.width e.incoming

abbrev pub seen : Box → Event → Event
seen b e =
    record {
      box = e.box;
      key = e.key;
      round = e.round;
      said = said_at b e.box e.said;
      spoken = e.spoken;
      incoming = heard_as e;
    }

abbrev pub view : Box → List Event → List Event
view b log = map (seen b) log
