mod Newlines
