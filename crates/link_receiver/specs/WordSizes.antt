-- A session in words of any size, as what every session is seen as.
use Rattle.link_receiver.specs.Sessions.{SessionView}
use Rattle.link_receiver.specs.declared.word_sizes.Sized.{Sized}
use Rattle.link_receiver.specs.declared.word_sizes.Sized.TheVariants.{One, Two, Four, Five, Eight, Ten, Sixteen}

abbrev pub session_in : Sized → SessionView
session_in (One s) = s
session_in (Two s) = s
session_in (Four s) = s
session_in (Five s) = s
session_in (Eight s) = s
session_in (Ten s) = s
session_in (Sixteen s) = s
